-- A node's link to itself, on which each frame passes, after an event.
use Rattle.std.proofs.Common.{◌≡◌, ◌≢◌, ℕ, zero, suc, ◌+◌, ◌<◌, Bool, false, cond, List, [], ◌∷◌, ◌++◌, length, map, drop, Option, Some, None, IfSome, inl, inr, refl, sym, ap, subst, ◌∙◌, append_assoc}
use Rattle.std.specs.Prelude.{◌==◌, ◌&&◌, ◌^◌, find}
use Rattle.std.specs.List.{AllByRecursion}
use Rattle.std.proofs.lemmas.Bool.{cases_eq, eq-eqb, ne_eqb}
use Rattle.std.proofs.lemmas.List.{length-map, map-append}
use Rattle.std.proofs.lemmas.List.Elements.{recursion_from_All}
use Rattle.uid_names.proofs.ListLemmas.{by_cases}
use Rattle.uid_names.proofs.Passed.{left-true, right-true, equal}
use Rattle.dom_history.specs.declared.event.What.{What}
use Rattle.dom_history.specs.declared.event.What.TheVariants.{Ready}
use Rattle.dom_history.specs.declared.event.Sent.{Sent}
use Rattle.dom_history.specs.declared.plan.Fate.{Fate}
use Rattle.dom_history.specs.declared.plan.Fate.TheVariants.{Pass}
use Rattle.dom_history.specs.declared.plan.FateRow.{FateRow}
use Rattle.dom_history.specs.Events.{Happening}
use Rattle.dom_history.specs.Plans.{is_of_frame, fate_in, fate_or_pass, fate_of, IsPlan}
use Rattle.ring_messages.specs.Frames.{Message}
use Rattle.node_runs.specs.Incomings.{Incoming}
use Rattle.node_runs.specs.Outcomes.{Stepped}
use Rattle.node_runs.specs.Runs.{World}
use Rattle.node_runs.specs.Deliveries.{in_place, falls_behind, copy_if, copies}
use Rattle.world_runs.specs.Sendings.{Sending, sending_if, sent_by, sendings, frames_in}
use Rattle.world_runs.specs.Waiting.{Entry, due, entries, entries_put}
use Rattle.ring_links.specs.declared.entry.Entry as carried-entry
use Rattle.ring_links.specs.declared.link.Later.{Later}
use Rattle.ring_links.specs.Carried as links
use Rattle.ring_links.proofs.Carrying.{frame-carried, less-carried}
use Rattle.local_runs.specs.LocalRuns.{own_event, own_world}
use Rattle.node_core.specs.declared.setup.Incoming as code
use Rattle.node_core.specs.declared.setup.Incoming.TheVariants as received
use Rattle.node_core.specs.Receivings.{seen, mark_in, emitted_by}
use Rattle.node_core.proofs.Sends.{Sends, nothing, mark, frame}
use Rattle.node_posts.specs.Sending.{own_if, own_by, own_after}
use Rattle.node_posts.specs.Posts.{IsOwnFrame, IsOwnLink}
use Rattle.node_posts.proofs.Sends.{emits-frame, emits-none, sent-own-none, sent-own-mark, sent-own-frame, frames-none, frames-some}

abbrev names : links.Carrying code.Incoming → List Entry
names link = map (λ e. links.plain_name e.waiting) link.queue

-- no row of a plan is of a link from a node to itself
module _ (n : ℕ) where
  not-own : (i : ℕ) (row : FateRow) → row.from ≢ row.to → is_of_frame n n i row ≡ false
  not-own i row apart = by_cases (is_of_frame n n i row) (is_of_frame n n i row ≡ false)
      (λ h.
      (let link = left-true ((row.from == n) && (row.to == n)) (row.index == i) h in
      absurd (apart (equal row.from n (left-true (row.from == n) (row.to == n) link) ∙ sym (equal row.to n (right-true (row.from == n) (row.to == n) link))))))
      (λ h. h)

  none-own : (i : ℕ) (plan : List FateRow) → AllByRecursion (λ row. row.from ≢ row.to) plan → find (is_of_frame n n i) plan ≡ None
  none-own i [] all = refl
  none-own i (row ∷ plan) all =
      ap (λ (b : Bool). cond b (Some row) (find (is_of_frame n n i) plan)) (not-own i row all.0) ∙ none-own i plan all.1

  pub own-passes : (plan : List FateRow) → IsPlan plan → (i : ℕ) → fate_of plan n n i ≡ Pass
  own-passes plan is i = ap (λ (r : Option FateRow). fate_or_pass (fate_in r)) (none-own i plan (recursion_from_All (λ row. row.from ≢ row.to) plan is.apart))

module _ (fate : ℕ → Fate) (passes : (i : ℕ) → fate i ≡ Pass) where
  no-copies : (j i : ℕ) → copies fate j i ≡ []
  no-copies j zero = refl
  no-copies j (suc i) =
      ap (λ (ks : List ℕ). ks ++ copy_if (falls_behind (suc i) j (fate (suc i))) (suc i)) (no-copies j i)
      ∙ ap (λ (f : Fate). copy_if (falls_behind (suc i) j f) (suc i)) (passes (suc i))

  due-own : (k : ℕ) → due fate k ≡ (k + 1) ∷ []
  due-own k =
      ap (λ (f : Fate). in_place (k + 1) f ++ copies fate (k + 1) (k + 1)) (passes (k + 1))
      ∙ ap (λ (ks : List ℕ). (k + 1) ∷ ks) (no-copies (k + 1) (k + 1))

-- a frame is sent on a link of which nothing falls later
abbrev IsPassed : List (carried-entry.Entry code.Incoming) → ℕ → code.Incoming → links.Carrying code.Incoming → Type 0
IsPassed queue frames x link = link ≡ record { frames = frames + 1; queue = queue ++ links.copy_of x (frames + 1) ∷ []; later = [] }

pass-plain : (frames : ℕ) (queue : List (carried-entry.Entry code.Incoming)) (x : code.Incoming)
    → IsPassed queue frames x (links.frame_sent Pass x (record { frames = frames; queue = queue; later = [] }))
pass-plain frames queue x = refl

pub passed : (x : code.Incoming) (link : links.Carrying code.Incoming) → link.later ≡ [] → IsPassed link.queue link.frames x (links.frame_sent Pass x link)
passed x link none =
    ap (λ (l : List (Later code.Incoming)). let k : links.Carrying code.Incoming = record { frames = link.frames; queue = link.queue; later = l } in links.frame_sent Pass x k) none
    ∙ pass-plain link.frames link.queue x

-- the oldest is taken
pub own-less : (wire n : ℕ) (w : World) (link : links.Carrying code.Incoming) → IsOwnLink wire n w link → IsOwnLink wire n w (record link { queue = drop 1 link.queue })
own-less wire n w link is = record {
  carries = less-carried 1 (map received.Frame (w.frames n n)) link is.carries;
  later = is.later;
  frames = rest link.queue is.frames;
}
  where
    rest : (q : List (carried-entry.Entry code.Incoming)) → AllByRecursion (λ e. IsOwnFrame wire n e.waiting (seen e.received)) q → AllByRecursion (λ e. IsOwnFrame wire n e.waiting (seen e.received)) (drop 1 q)
    rest [] all = tt
    rest (e ∷ q) all = all.1

push-all : (wire n : ℕ) (q : List (carried-entry.Entry code.Incoming)) (e : carried-entry.Entry code.Incoming) → AllByRecursion (λ e. IsOwnFrame wire n e.waiting (seen e.received)) q → IsOwnFrame wire n e.waiting (seen e.received)
    → AllByRecursion (λ e. IsOwnFrame wire n e.waiting (seen e.received)) (q ++ e ∷ [])
push-all wire n [] e all is = (is, tt)
push-all wire n (f ∷ q) e all is = (all.0, push-all wire n q e all.1 is)

-- the link after an event, of which these entries were taken
pub record IsOwnAfter (plan : List FateRow) (wire n tick : ℕ) (e : Happening) (es : List Happening) (taken : List Entry) (w : World) (link : links.Carrying code.Incoming) : Type 0 where
  pub own : tick < 2 ^ 40 → IsOwnLink wire n w link
  pub put : entries_put plan n n (e ∷ es) ≡ taken ++ names link

module _ (plan : List FateRow) (kept : IsPlan plan) (wire n : ℕ) (w : World) (es : List Happening) (what : What) (incoming : Incoming) (st : Stepped)
    (counted : length (w.frames n n) ≡ frames_in (sendings n n es)) (link : links.Carrying code.Incoming) (is : IsOwnLink wire n w link)
    (taken : List Entry) (put : entries_put plan n n es ≡ taken ++ names link) where
  abbrev e : Happening
  e = (own_event n what incoming st).event

  abbrev v : World
  v = own_world n w what st

  quiet : (l : links.Carrying code.Incoming) → l ≡ link → sent_by n n e ≡ [] → v.frames n n ≡ w.frames n n → IsOwnAfter plan wire n st.node.tick e es taken v l
  quiet l same none frames = record {
    own = λ early. subst (IsOwnLink wire n v) (sym same) (record { carries = subst (λ (ms : List Message). links.CarriesFrames (map received.Frame ms) link) (sym frames) is.carries; later = is.later; frames = is.frames });
    put = ap (λ (ss : List Sending). entries (fate_of plan n n) (ss ++ sendings n n es)) none ∙ put ∙ ap (λ (k : links.Carrying code.Incoming). taken ++ names k) (sym same);
  }

  -- a frame to the node itself
  own-frame : (m : Message) → m.from ≡ n → m.to ≡ n → m.version ≡ wire → m.tick ≡ st.node.tick → sent_by n n e ≡ Sending.Frame ∷ [] → v.frames n n ≡ m ∷ w.frames n n
      → IsOwnAfter plan wire n st.node.tick e es taken v (links.frame_sent Pass (received.Frame m) link)
  own-frame m from to version tick sent frames =
      let l = links.frame_sent Pass (received.Frame m) link in
      let k = link.frames + 1 in
      let now = passed (received.Frame m) link is.later in
      let q = ap (λ (c : links.Carrying code.Incoming). c.queue) now in
      let number : frames_in (sendings n n es) + 1 ≡ k = ap (λ (i : ℕ). i + 1) (sym counted ∙ (sym (length-map (w.frames n n) received.Frame) ∙ is.carries.frames)) in
      record {
        own = λ early. record {
          carries = subst (λ (ms : List Message). links.CarriesFrames (map received.Frame ms) l) (sym frames) (frame-carried Pass (received.Frame m) (map received.Frame (w.frames n n)) link is.carries);
          later = ap (λ (c : links.Carrying code.Incoming). c.later) now;
          frames =
              subst (λ (es : List (carried-entry.Entry code.Incoming)). AllByRecursion (λ e. IsOwnFrame wire n e.waiting (seen e.received)) es) (sym q)
              (push-all wire n link.queue (links.copy_of (received.Frame m) k) is.frames (from, to, subst (λ (t : ℕ). t < 2 ^ 40) (sym tick) early, version));
        };
        put =
            ap (λ (ss : List Sending). entries (fate_of plan n n) (ss ++ sendings n n es)) sent
            ∙ (ap (λ (ks : List ℕ). entries_put plan n n es ++ map Entry.Copy ks) (due-own (fate_of plan n n) (own-passes n plan kept) (frames_in (sendings n n es)))
            ∙ (ap (λ (i : ℕ). entries_put plan n n es ++ Entry.Copy i ∷ []) number
            ∙ (ap (λ (xs : List Entry). xs ++ Entry.Copy k ∷ []) put
            ∙ (append_assoc taken (names link) (Entry.Copy k ∷ [])
            ∙ (ap (λ (xs : List Entry). taken ++ xs) (sym (map-append (λ (c : carried-entry.Entry code.Incoming). links.plain_name c.waiting) link.queue (links.copy_of (received.Frame m) k ∷ [])))
            ∙ ap (λ (c : List (carried-entry.Entry code.Incoming)). taken ++ map (λ e. links.plain_name e.waiting) c) (sym q))))));
      }

  own-nothing : mark_in what ≡ None → st.frame ≡ None → own_after n (emitted_by what st) link ≡ link
  own-nothing unmarked none =
      ap (λ (k : Option ℕ). own_by n k (emitted_by what st).frame link) unmarked ∙ ap (λ (f : Option (ℕ × Message)). own_by n None f link) (emits-none what st none)

  own-mark : (phase : ℕ) → what ≡ Ready phase → own_after n (emitted_by what st) link ≡ link
  own-mark phase is = ap (λ (k : Option ℕ). own_by n k (emitted_by what st).frame link) (ap mark_in is)

  own-sent : (m : Message) (x : Sent) → mark_in what ≡ None → st.frame ≡ Some m → st.effects.sent ≡ Some x → own_after n (emitted_by what st) link ≡ own_if (m.to == n) m link
  own-sent m x unmarked is sent =
      ap (λ (k : Option ℕ). own_by n k (emitted_by what st).frame link) unmarked ∙ ap (λ (f : Option (ℕ × Message)). own_by n None f link) (emits-frame what st m x is sent)

  pub own-link-after : Sends n what st → ((m : Message) → st.frame ≡ Some m → m.tick ≡ st.node.tick) → IfSome st.frame (λ m. m.version ≡ wire) → IsOwnAfter plan wire n st.node.tick e es taken v (own_after n (emitted_by what st) link)
  own-link-after (nothing unmarked none nowhere) ticks versions =
      quiet (own_after n (emitted_by what st) link) (own-nothing unmarked none) (sent-own-none n st.node.tick what incoming st refl unmarked nowhere)
      (frames-none n st.node.tick what incoming st refl w n none)
  own-link-after (mark phase is none nowhere) ticks versions =
      quiet (own_after n (emitted_by what st) link) (own-mark phase is) (sent-own-mark n st.node.tick what incoming st refl phase is nowhere)
      (frames-none n st.node.tick what incoming st refl w n none)
  own-link-after (frame m x unmarked f sent from goes) ticks versions = elim (cases_eq m.to n) [
    | inl here ↦
        (let b = eq-eqb m.to n here in
        subst (IsOwnAfter plan wire n st.node.tick e es taken v) (sym (own-sent m x unmarked f sent ∙ ap (λ (c : Bool). own_if c m link) b))
        (own-frame m from here (subst (λ (o : Option Message). IfSome o (λ x. x.version ≡ wire)) f versions) (ticks m f)
        (sent-own-frame n st.node.tick what incoming st refl m x unmarked sent goes ∙ ap (λ (c : Bool). sending_if c Sending.Frame) b)
        (frames-some n st.node.tick what incoming st refl w n m f ∙ ap (λ (c : Bool). cond c (m ∷ w.frames n n) (w.frames n n)) (eq-eqb n m.to (sym here)))))
    | inr away ↦
        (let b = ne_eqb m.to n away in
        quiet (own_after n (emitted_by what st) link) (own-sent m x unmarked f sent ∙ ap (λ (c : Bool). own_if c m link) b)
        (sent-own-frame n st.node.tick what incoming st refl m x unmarked sent goes ∙ ap (λ (c : Bool). sending_if c Sending.Frame) b)
        (frames-some n st.node.tick what incoming st refl w n m f ∙ ap (λ (c : Bool). cond c (m ∷ w.frames n n) (w.frames n n)) (ne_eqb n m.to (λ h. away (sym h)))))
  ]
