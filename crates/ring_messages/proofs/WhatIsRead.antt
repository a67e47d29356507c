-- What reading a frame answers, from what its header and its fields are.
use Rattle.std.proofs.Common.{◌≡◌, ℕ, ◌-◌, List, length, take, drop, Option, Some, None, Result, Ok, Err, refl, sym, ap, subst, ◌∙◌, arith}
use Rattle.std.specs.Prelude.{◌≢◌, IfOk}
use Rattle.std.proofs.lemmas.List.{take_all, length-drop}
use Rattle.uid_names.specs.declared.frame_kind.FrameKind.{FrameKind}
use Rattle.ring_messages.specs.declared.body.Body.{Body}
use Rattle.ring_messages.specs.declared.frame.Head.{Head}
use Rattle.ring_messages.specs.declared.frame.FrameFault.{FrameFault}
use Rattle.ring_messages.specs.declared.frame.FrameFault.TheVariants as faults
use Rattle.ring_messages.specs.Frames.{Message}
use Rattle.uid_names.specs.Wires.{wire_room}
use Rattle.ring_messages.specs.Ranges.{IsBody, LiesWithin}
use Rattle.ring_messages.specs.Spelling.{header, framed, spelling}
use Rattle.ring_messages.specs.Spelled.{IsHead, IsFrame, Spells}
use Rattle.uid_names.specs.Steps.{◌>>=◌}
use Rattle.uid_names.proofs.Somes.{bind-some}
use Rattle.ring_messages.specs.ReaderSteps.{Fails, Gives}
use Rattle.ring_messages.specs.ReaderBodies.{body_at, frame_at}
use Rattle.ring_messages.proofs.Fields.{IsBytes, IsBytes-drop, some_is}
use Rattle.ring_messages.proofs.Bodies.{body-takes}
use Rattle.ring_messages.proofs.Frames.{frame-takes, frame-again}

-- what was read keeps its ranges
pub in-range : (version : ℕ) (k : FrameKind) (to : ℕ) (bytes : List ℕ) (b : Body) → IsBytes bytes → body_at version k to bytes ≡ Some b → IsBody to b
in-range version k to bytes b small e = (body-takes version k to bytes b small e).ranges

-- and lies within what its version can write
pub in-within : (version : ℕ) (k : FrameKind) (to : ℕ) (bytes : List ℕ) (b : Body) → IsBytes bytes → body_at version k to bytes ≡ Some b → LiesWithin (wire_room version) b
in-within version k to bytes b small e = (body-takes version k to bytes b small e).within

-- the bytes behind a header
abbrev pub behind : List ℕ → List ℕ
behind bytes = take (length bytes - 24) (drop 24 bytes)

to_the_end : (bytes : List ℕ) → behind bytes ≡ drop 24 bytes
to_the_end bytes = take_all (length bytes - 24) (drop 24 bytes) (omega (arith, length-drop 24 bytes))

module _ (h : Head) (bytes : List ℕ) (is : IsHead h) (head : take 24 bytes ≡ header h) where
  -- ---- one kind

  pub kind-range : (k : FrameKind) (b : Body) → IsBytes bytes → body_at h.version k h.to (behind bytes) ≡ Some b → IsBody h.to b
  kind-range k b small e = in-range h.version k h.to (behind bytes) b (subst IsBytes (sym (to_the_end bytes)) (IsBytes-drop 24 bytes small)) e

  pub kind-within : (k : FrameKind) (b : Body) → IsBytes bytes → body_at h.version k h.to (behind bytes) ≡ Some b → LiesWithin (wire_room h.version) b
  kind-within k b small e = in-within h.version k h.to (behind bytes) b (subst IsBytes (sym (to_the_end bytes)) (IsBytes-drop 24 bytes small)) e

  pub kind-found : (k : FrameKind) (b : Body) (m : Message) → IsBytes bytes → h.kind ≡ k → body_at h.version k h.to (behind bytes) ≡ Some b → m ≡ framed h b → Spells m bytes
  kind-found k b m small kind e made =
      let read : body_at h.version h.kind h.to (drop 24 bytes) ≡ Some b = ap (λ (x : FrameKind). body_at h.version x h.to (drop 24 bytes)) kind ∙ ap (body_at h.version k h.to) (sym (to_the_end bytes)) ∙ e in
      rw made (frame-takes h bytes b small is head read)

  pub kind-bad : (k : FrameKind) (fault : FrameFault) → h.kind ≡ k → Fails fault (body_at h.version k h.to (behind bytes)) → fault ≡ faults.BadFrame → (m : Message) → IsFrame m → bytes ≢ spelling m
  kind-bad k fault kind fails bad m frame text =
      let none : body_at h.version k h.to (behind bytes) ≡ None = subst (λ (f : FrameFault). Fails f (body_at h.version k h.to (behind bytes))) bad fails in
      let same : body_at h.version k h.to (behind bytes) ≡ body_at h.version h.kind h.to (drop 24 bytes) = ap (body_at h.version k h.to) (to_the_end bytes) ∙ ap (λ (x : FrameKind). body_at h.version x h.to (drop 24 bytes)) (sym kind) in
      let again = frame-again h m bytes is head frame text in
      absurd (cc (none, same, again.1))

  -- ---- all kinds

  pub answer-found : (r : Result Message FrameFault) → IsBytes bytes → Gives (λ (m : Message). m) r (frame_at h (behind bytes)) → IfOk r (λ m. Spells m bytes)
  answer-found (Ok m) small e =
      let b = bind-some (body_at h.version h.kind h.to (behind bytes)) (λ (b : Body). Some (framed h b)) m e in
      kind-found h.kind b.0 m small refl b.1 (sym (some_is (framed h b.0) m b.2))
  answer-found (Err fault) small e = tt

  pub answer-bad : (r : Result Message FrameFault) → Gives (λ (m : Message). m) r (frame_at h (behind bytes)) → r ≡ Err faults.BadFrame → (m : Message) → IsFrame m → bytes ≢ spelling m
  answer-bad (Ok m) e bad = absurd cc
  answer-bad (Err faults.NoMemory) e bad = absurd cc
  answer-bad (Err faults.BadFrame) e bad = λ m frame text.
      let again = frame-again h m bytes is head frame text in
      let read : frame_at h (behind bytes) ≡ Some (framed h m.body) = ap (λ (rest : List ℕ). frame_at h rest) (to_the_end bytes) ∙ ap (λ (r : Option Body). r >>= λ (b : Body). Some (framed h b)) again.1 in
      absurd (cc (read, e))
