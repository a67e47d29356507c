-- What a reading asks is what its dialogue says.
use Rattle.std.proofs.Common.{◌≡◌, ℕ, Bool, false, Option, Some, None, List, ◌∷◌, refl, ap, sym}
use Rattle.std.proofs.lemmas.Bool.{false≢true}
use Rattle.uid_names.specs.Names.{ObjectName}
use Rattle.uid_names.specs.declared.mode.Mode.{Mode}
use Rattle.uid_names.specs.declared.mode.Mode.TheVariants.{Read}
use Rattle.dom_history.specs.declared.op.Op.{Op}
use Rattle.dom_history.specs.declared.op.Reply.{Reply}
use Rattle.naming_tree.specs.declared.session.Opened.{Opened}
use Rattle.naming_tree.specs.declared.session.Held.{Held}
use Rattle.naming_tree.specs.declared.session.Entering.{Entering}
use Rattle.naming_tree.specs.declared.session.Entering.TheVariants.{Lock, Length, Map, Load}
use Rattle.naming_tree.specs.declared.session.Closing.{Closing}
use Rattle.naming_tree.specs.declared.step.Step.TheVariants.{Do}
use Rattle.naming_tree.specs.declared.reading.Reading.{Reading}
use Rattle.naming_tree.specs.Entering.{enter_op, held_op, held_after, IsEntering}
use Rattle.naming_tree.specs.Dialogues.{Dialogue, says}
use Rattle.naming_tree.specs.Sessions.{closers, loading}
use Rattle.naming_tree.specs.Readings.{reading_op, op_at, is_done, is_done_at}
use Rattle.naming_tree.proofs.ReadingsLeft.{entering_left, closing_by, closing_left, ops_held, ops_first, loads_first, reading_left, read_left, shut_then}
use Rattle.naming_tree.proofs.ReadingsOn.{IsSoundAt, IsSound}

-- an opening
pub entering_says : (u : ObjectName) (mode : Mode) (further : Opened → List ℕ → Dialogue) (stage : Entering) (so_far : List ℕ) → IsEntering stage → says (entering_left u mode further stage so_far) ≡ Do (enter_op u mode stage)
entering_says u mode further Lock so_far h = refl
entering_says u mode further Length so_far h = refl
entering_says u mode further (Map n) so_far h = refl
entering_says u mode further (Load o page) so_far h = ap (λ (l : List Op). says (loading (closers o) l so_far (further o))) (loads_first u mode further o page h.1)

first_says : (counts : Bool) (refused : Option Reply) (op : Op) (rest : List Op) (end : Dialogue) → says (closing_by counts refused (op ∷ rest) end) ≡ Do op
first_says counts None op rest end = refl
first_says counts (Some reply) op rest end = refl

-- a closing
pub closing_says : (c : Closing) (h : Held) (end : Dialogue) → c.held ≡ Some h → says (closing_left c end) ≡ Do (held_op h)
closing_says c h end held = rw (held, ops_first h.other h.mapped h.uid) (first_says c.counts c.refused (held_op h) (ops_held (held_after h)) end)

says_at : (r : Reading) (enter : Option Entering) (held : Option Held) (further : List ℕ → Dialogue) → r.closing.held ≡ held → IsSoundAt enter r.closing → is_done_at enter held ≡ false → says (read_left r.uid enter r.bytes r.closing further) ≡ Do (op_at r.uid enter held)
says_at r (Some stage) held further e h going = entering_says r.uid Read (shut_then further) stage r.bytes h
says_at r None (Some held) further e h going = closing_says r.closing held (further r.bytes) e
says_at r None None further e h going = absurd (false≢true (sym going))

-- a reading that is not done
pub reading_says : (r : Reading) (further : List ℕ → Dialogue) → IsSound r → is_done r ≡ false → says (reading_left r further) ≡ Do (reading_op r)
reading_says r further h going = says_at r r.enter r.closing.held further refl h going
