-- A stream begins with its whole dialogue.
use Rattle.std.proofs.Common.{◌≡◌, ℕ, Option, Some, List, [], ap, ◌∙◌}
use Rattle.uid_names.specs.Names.{ObjectName}
use Rattle.mapped_streams.specs.declared.gathered.Gathered.TheVariants.{All}
use Rattle.mapped_streams.specs.declared.work.Side.TheVariants.{Before}
use Rattle.mapped_streams.specs.declared.work.Work.TheVariants.{Read, Append}
use Rattle.mapped_streams.specs.declared.streaming.Streaming.{Streaming}
use Rattle.mapped_streams.specs.Streams.{reading, append, read_all}
use Rattle.mapped_streams.specs.States.{rest, streaming_of}

pub read_begins : (u : ObjectName) (m : Option Streaming) (bytes : List ℕ) → m ≡ Some (streaming_of u (Read 0 (All bytes))) → bytes ≡ [] → rest m ≡ Some (read_all u)
read_begins u m bytes made e = ap rest made ∙ ap (λ all. Some (reading u (All all))) e

pub append_begins : (u : ObjectName) (m : Option Streaming) (bytes text : List ℕ) → m ≡ Some (streaming_of u (Append bytes (Some Before))) → bytes ≡ text → rest m ≡ Some (append u text)
append_begins u m bytes text made e = ap rest made ∙ ap (λ put. Some (append u put)) e

-- and as a stream that has heard nothing
pub read_made : (u : ObjectName) (m : Option Streaming) (bytes : List ℕ) → m ≡ Some (streaming_of u (Read 0 (All bytes))) → bytes ≡ [] → m ≡ Some (streaming_of u (Read 0 (All [])))
read_made u m bytes made e = made ∙ ap (λ all. Some (streaming_of u (Read 0 (All all)))) e

pub append_made : (u : ObjectName) (m : Option Streaming) (bytes text : List ℕ) → m ≡ Some (streaming_of u (Append bytes (Some Before))) → bytes ≡ text → m ≡ Some (streaming_of u (Append text (Some Before)))
append_made u m bytes text made e = made ∙ ap (λ put. Some (streaming_of u (Append put (Some Before)))) e
