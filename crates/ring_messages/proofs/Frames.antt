-- A frame that is read is the frame that was written, and each has one spelling.
use Rattle.std.proofs.Common.{◌≡◌, ℕ, ◌+◌, ◌≤◌, true, List, [], ◌++◌, length, take, drop, Some, refl, sym, ap, ◌∙◌, append_assoc, arith}
use Rattle.std.specs.Prelude.{◌==◌}
use Rattle.std.proofs.lemmas.Bool.Decides.{nat_tests}
use Rattle.std.proofs.lemmas.List.{take_at, drop_at, take-append-drop, length-append, append-nil, take_all}
use Rattle.uid_names.specs.FrameKinds.{kind_number}
use Rattle.uid_names.specs.declared.frame_kind.FrameKind.{FrameKind}
use Rattle.ring_messages.specs.declared.body.Body.{Body}
use Rattle.ring_messages.specs.declared.frame.Head.{Head}
use Rattle.ring_messages.specs.Frames.{Message}
use Rattle.ring_messages.specs.Spelling.{header, head_of, framed, spelling, body_bytes}
use Rattle.ring_messages.specs.Spelled.{IsHead, IsFrame, Spells}
use Rattle.uid_names.specs.declared.limits.TheConstants.{PAGE_BYTES}
use Rattle.ring_messages.specs.Sizes.{body_size}
use Rattle.ring_messages.specs.ReaderBodies.{body_at}
use Rattle.uid_names.specs.FrameKinds.{kind_of_number}
use Rattle.uid_names.proofs.TextTables.{kind_of_number-number}
use Rattle.ring_messages.proofs.Fields.{IsBytes, IsBytes-drop, some_is}
use Rattle.ring_messages.proofs.Heads.{shows, length-header}
use Rattle.ring_messages.proofs.Bodies.{body-takes, body-again}
use Rattle.ring_messages.proofs.Sizes.{length-body, most_size, most-most, size-bound, body-prefix}

kind_number-injective : (j k : FrameKind) → kind_number j ≡ kind_number k → j ≡ k
kind_number-injective j k e = some_is j k (sym (kind_of_number-number j) ∙ ap kind_of_number e ∙ kind_of_number-number k)

-- two headers are equal only where all fields are
pub header-injective : (g h : Head) → IsHead g → IsHead h → header g ≡ header h → g ≡ h
header-injective g h is_g is_h e =
    let whole : take 24 (header g) ≡ header g = take_all-24 (header g) (length-header g) in
    let of_g = shows g (header g) is_g whole in
    let of_h = shows h (header g) is_h (whole ∙ e) in
    let kind : g.kind ≡ h.kind = kind_number-injective g.kind h.kind (sym of_g.kind ∙ of_h.kind) in
    let from : g.from ≡ h.from = sym of_g.from ∙ of_h.from in
    let to : g.to ≡ h.to = sym of_g.to ∙ of_h.to in
    let proc : g.proc ≡ h.proc = sym of_g.proc ∙ of_h.proc in
    let number : g.number ≡ h.number = sym of_g.number ∙ of_h.number in
    let tick : g.tick ≡ h.tick = sym of_g.tick ∙ of_h.tick in
    let version : g.version ≡ h.version = sym of_g.version ∙ of_h.version in
    rebuilt g h version kind from to proc number tick
  where
    take_all-24 : (xs : List ℕ) → length xs ≡ 24 → take 24 xs ≡ xs
    take_all-24 xs len = take_all 24 xs (omega arith)

    rebuilt : (g h : Head) → g.version ≡ h.version → g.kind ≡ h.kind → g.from ≡ h.from → g.to ≡ h.to → g.proc ≡ h.proc → g.number ≡ h.number → g.tick ≡ h.tick → g ≡ h
    rebuilt g h version kind from to proc number tick =
        ap (λ (x : ℕ). record { version = x; kind = g.kind; from = g.from; to = g.to; proc = g.proc; number = g.number; tick = g.tick }) version
        ∙ ap (λ (x : FrameKind). record { version = h.version; kind = x; from = g.from; to = g.to; proc = g.proc; number = g.number; tick = g.tick }) kind
        ∙ ap (λ (x : ℕ). record { version = h.version; kind = h.kind; from = x; to = g.to; proc = g.proc; number = g.number; tick = g.tick }) from
        ∙ ap (λ (x : ℕ). record { version = h.version; kind = h.kind; from = h.from; to = x; proc = g.proc; number = g.number; tick = g.tick }) to
        ∙ ap (λ (x : ℕ). record { version = h.version; kind = h.kind; from = h.from; to = h.to; proc = x; number = g.number; tick = g.tick }) proc
        ∙ ap (λ (x : ℕ). record { version = h.version; kind = h.kind; from = h.from; to = h.to; proc = h.proc; number = x; tick = g.tick }) number
        ∙ ap (λ (x : ℕ). record { version = h.version; kind = h.kind; from = h.from; to = h.to; proc = h.proc; number = h.number; tick = x }) tick

pub head-is : (m : Message) → IsFrame m → IsHead (head_of m)
head-is m is = record {
  version = is.in_range.version;
  from = is.from;
  to = is.to;
  proc_low = is.in_range.proc_low;
  proc_high = is.in_range.proc_high;
  number_low = is.in_range.number;
  number_high = is.number_high;
  tick_low = is.in_range.tick;
  tick_high = is.tick_high;
}

pub spelling-take : (m : Message) (rest : List ℕ) → take 24 (spelling m ++ rest) ≡ header (head_of m)
spelling-take m rest = ap (take 24) (append_assoc (header (head_of m)) (body_bytes m.version m.body) rest) ∙ take_at (header (head_of m)) (body_bytes m.version m.body ++ rest) 24 (length-header (head_of m))

pub spelling-drop : (m : Message) (rest : List ℕ) → drop 24 (spelling m ++ rest) ≡ body_bytes m.version m.body ++ rest
spelling-drop m rest = ap (drop 24) (append_assoc (header (head_of m)) (body_bytes m.version m.body) rest) ∙ drop_at (header (head_of m)) (body_bytes m.version m.body ++ rest) 24 (length-header (head_of m))

-- what was read is the frame that was written
pub frame-takes : (h : Head) (bytes : List ℕ) (b : Body) → IsBytes bytes → IsHead h → take 24 bytes ≡ header h → body_at h.version h.kind h.to (drop 24 bytes) ≡ Some b → Spells (framed h b) bytes
frame-takes h bytes b small is head body =
    let r = body-takes h.version h.kind h.to (drop 24 bytes) b (IsBytes-drop 24 bytes small) body in
    let m = framed h b in
    let heads : header h ≡ header (head_of m) = ap (λ (k : FrameKind). header (record { version = h.version; kind = k; from = h.from; to = h.to; proc = h.proc; number = h.number; tick = h.tick })) (sym r.kind) in
    record {
      frame = record { from = is.from; to = is.to; number_high = is.number_high; tick_high = is.tick_high; typed = r.typed; in_range = record { proc_low = is.proc_low; proc_high = is.proc_high; number = is.number_low; tick = is.tick_low; body = r.ranges; version = is.version; within = r.within } };
      text = sym (take-append-drop 24 bytes) ∙ ap (λ (x : List ℕ). x ++ drop 24 bytes) (head ∙ heads) ∙ ap (λ (x : List ℕ). header (head_of m) ++ x) r.text;
    }

-- what was written has its header and its body
pub frame-head : (m : Message) (bytes : List ℕ) → bytes ≡ spelling m → take 24 bytes ≡ header (head_of m)
frame-head m bytes e = ap (take 24) (e ∙ sym (append-nil (spelling m))) ∙ spelling-take m []

pub frame-again : (h : Head) (m : Message) (bytes : List ℕ) → IsHead h → take 24 bytes ≡ header h → IsFrame m → bytes ≡ spelling m → (head_of m ≡ h) × (body_at h.version h.kind h.to (drop 24 bytes) ≡ Some m.body)
frame-again h m bytes is head frame e =
    let same : head_of m ≡ h = header-injective (head_of m) h (head-is m frame) is (sym (frame-head m bytes e) ∙ head) in
    let rest : drop 24 bytes ≡ body_bytes m.version m.body = ap (drop 24) (e ∙ sym (append-nil (spelling m))) ∙ spelling-drop m [] ∙ append-nil (body_bytes m.version m.body) in
    (same, ap (body_at h.version h.kind h.to) rest ∙ ap (λ (g : Head). body_at g.version g.kind g.to (body_bytes m.version m.body)) (sym same) ∙ body-again m.version m.to m.body frame.in_range.body frame.in_range.within frame.typed)

-- ---- laws

pub one-frame : (m n : Message) (bytes : List ℕ) → Spells m bytes → Spells n bytes → m ≡ n
one-frame m n bytes sm sn =
    let head = frame-head m bytes sm.text in
    let of_m = frame-again (head_of m) m bytes (head-is m sm.frame) head sm.frame sm.text in
    let of_n = frame-again (head_of m) n bytes (head-is m sm.frame) head sn.frame sn.text in
    let body : m.body ≡ n.body = some_is m.body n.body (sym of_m.1 ∙ of_n.1) in
    ap (λ (g : Head). framed g m.body) (sym of_n.0) ∙ ap (framed (head_of n)) body

pub no-prefix : (m n : Message) (rest : List ℕ) → IsFrame m → IsFrame n → spelling n ≡ spelling m ++ rest → rest ≡ []
no-prefix m n rest is_m is_n e =
    let heads : header (head_of m) ≡ header (head_of n) = sym (spelling-take m rest) ∙ ap (take 24) (sym e) ∙ frame-head n (spelling n) refl in
    let same = header-injective (head_of m) (head_of n) (head-is m is_m) (head-is n is_n) heads in
    let version : body_bytes n.version n.body ≡ body_bytes m.version n.body = ap (λ (g : Head). body_bytes g.version n.body) (sym same) in
    let behind : drop 24 (spelling n) ≡ body_bytes m.version n.body = ap (drop 24) (sym (append-nil (spelling n))) ∙ spelling-drop n [] ∙ append-nil (body_bytes n.version n.body) ∙ version in
    body-prefix m.version m.to m.body n.body rest is_m.in_range.body (rw (ap (λ (g : Head). g.to) same) is_n.in_range.body) (ap (λ (g : Head). g.kind) same) (sym behind ∙ ap (drop 24) e ∙ spelling-drop m rest)

pub length-spelling : (m : Message) → IsFrame m → length (spelling m) ≡ 24 + body_size m.version m.body
length-spelling m is = omega (arith, length-append (header (head_of m)) (body_bytes m.version m.body), length-header (head_of m), length-body m.version m.to m.body is.in_range.body)

spelling-most : (m : Message) → IsFrame m → length (spelling m) ≤ 24 + (28 + most_size (m.version == 1))
spelling-most m is = omega (arith, length-spelling m is, size-bound m.version m.to m.body is.in_range.body)

pub spelling-bound : (m : Message) → IsFrame m → length (spelling m) ≤ 24 + (29 + PAGE_BYTES)
spelling-bound m is = omega (arith, spelling-most m is, most-most (m.version == 1))

pub first-bound : (m : Message) → IsFrame m → m.version ≡ 1 → length (spelling m) ≤ 24 + (28 + PAGE_BYTES)
first-bound m is first =
    let one : (m.version == 1) ≡ true = grind (arith, nat_tests, first) in
    let most : most_size (m.version == 1) ≡ PAGE_BYTES = ap most_size one in
    omega (arith, spelling-most m is, most)
