-- The links to a node after what an event sent came to them.
use Rattle.std.proofs.Common.{◌≡◌, ◌≢◌, ℕ, ◌+◌, Bool, true, false, cond, Option, Some, None, List, [], ◌∷◌, inl, inr, refl, sym, ap, ◌∙◌, arith}
use Rattle.std.specs.Prelude.{◌==◌, ◌&&◌, slice_get}
use Rattle.std.specs.Option.{option_map}
use Rattle.std.proofs.lemmas.Bool.{cases_eq, eq-eqb, ne_eqb}
use Rattle.dom_history.specs.declared.event.What.{What}
use Rattle.dom_history.specs.declared.event.What.TheVariants.{Ready}
use Rattle.dom_history.specs.declared.event.Sent.{Sent}
use Rattle.dom_history.specs.declared.plan.FateRow.{FateRow}
use Rattle.dom_history.specs.Events.{Happening}
use Rattle.dom_history.specs.Plans.{fate_of}
use Rattle.ring_messages.specs.Frames.{Message}
use Rattle.node_runs.specs.Setups.{Setup}
use Rattle.node_runs.specs.Incomings.{Incoming}
use Rattle.node_runs.specs.Outcomes.{Stepped}
use Rattle.node_runs.specs.Runs.{World, SentMark, mark_of, incoming_of, world_with}
use Rattle.world_runs.specs.Sendings.{sent_by}
use Rattle.world_runs.proofs.Alike.{added, frames-added, marked_by, marks-marked}
use Rattle.node_core.specs.Receivings.{mark_in}
use Rattle.world_core.specs.declared.station.LinkFrom.{LinkFrom}
use Rattle.world_core.specs.Sending.{link_with, delivered, mark_with, marked}
use Rattle.world_core.proofs.EventsSent.{event, sent-away, sent-nowhere, sent-frame, sent-elsewhere, sent-mark, sent-own_mark}
use Rattle.world_core.proofs.LinksReached.{changed-at, IsChanged, here, elsewhere, delivered-is, marked-is, AreLess}
use Rattle.world_core.proofs.StationsAfter.{IsLinkAfter, quiet, framed, sent_mark}

same-added : (b : Bool) (m : Message) (xs : List Message) → cond b xs xs ≡ xs
same-added true m xs = refl
same-added false m xs = refl

-- the world after an event of the node at a place
module _ (s : Setup) (plan : List FateRow) (w : World) (at : ℕ) (what : What) (st : Stepped) where
  abbrev n : ℕ
  n = at + 1

  abbrev tick : ℕ
  tick = st.node.tick

  abbrev v : World
  v = world_with w (record { tick = tick; node = n }) what st

  abbrev e : Happening
  e = event n tick what st

  -- its frames
  pub frames-none : (from to : ℕ) → st.frame ≡ None → v.frames from to ≡ w.frames from to
  frames-none from to none = frames-added w n st.frame from to ∙ ap (λ (o : Option Message). added n o from to (w.frames from to)) none

  frames-some : (m : Message) (from to : ℕ) → st.frame ≡ Some m → v.frames from to ≡ cond (from == n) (cond (to == m.to) (m ∷ w.frames from to) (w.frames from to)) (w.frames from to)
  frames-some m from to is = frames-added w n st.frame from to ∙ ap (λ (o : Option Message). added n o from to (w.frames from to)) is

  frames-away : (m : Message) (from to : ℕ) → st.frame ≡ Some m → from ≢ n → v.frames from to ≡ w.frames from to
  frames-away m from to is away =
      frames-some m from to is ∙ ap (λ (b : Bool). cond b (cond (to == m.to) (m ∷ w.frames from to) (w.frames from to)) (w.frames from to)) (ne_eqb from n away)

  frames-elsewhere : (m : Message) (from to : ℕ) → st.frame ≡ Some m → to ≢ m.to → v.frames from to ≡ w.frames from to
  frames-elsewhere m from to is away =
      frames-some m from to is
      ∙ ap (λ (b : Bool). cond (from == n) (cond b (m ∷ w.frames from to) (w.frames from to)) (w.frames from to)) (ne_eqb to m.to away)
      ∙ same-added (from == n) m (w.frames from to)

  pub frames-there : (m : Message) (from to : ℕ) → st.frame ≡ Some m → from ≡ n → to ≡ m.to → v.frames from to ≡ m ∷ w.frames from to
  frames-there m from to is own there =
      frames-some m from to is
      ∙ ap (λ (b : Bool). cond b (cond (to == m.to) (m ∷ w.frames from to) (w.frames from to)) (w.frames from to)) (eq-eqb from n own)
      ∙ ap (λ (b : Bool). cond b (m ∷ w.frames from to) (w.frames from to)) (eq-eqb to m.to there)

  -- its mark
  mark-there : (phase from : ℕ) → what ≡ Ready phase → from ≡ n → option_map (λ (m : SentMark). m.tick) (mark_of v from phase) ≡ Some tick
  mark-there phase from is own =
      ap (option_map (λ (m : SentMark). m.tick))
      (marks-marked w (record { tick = tick; node = n }) what st from phase
      ∙ ap (λ (x : What). marked_by n tick x from phase (mark_of w from phase)) is
      ∙ ap (λ (b : Bool). cond (b && (phase == phase)) (Some (record { node = n; phase = phase; tick = tick })) (mark_of w from phase)) (eq-eqb n from (sym own))
      ∙ ap (λ (b : Bool). cond b (Some (record { node = n; phase = phase; tick = tick })) (mark_of w from phase)) (eq-eqb phase phase refl))

  module _ (to : ℕ) (done : v.done ≡ e ∷ w.done) (stays : (m : ℕ) (x : What) (i : Incoming) → incoming_of w m x ≡ Some i → incoming_of v m x ≡ Some i) where
    -- a link after the event, that stands where it stood
    pub record IsLinkMade (ins : List LinkFrom) (j : ℕ) (l : LinkFrom) : Type 0 where
      pub link : LinkFrom
      pub there : slice_get ins j ≡ Some link
      pub made : IsLinkAfter s plan w v to e done stays (j + 1) link l

    abbrev pub AreMade : List LinkFrom → List LinkFrom → Type 0
    AreMade ins news = (j : ℕ) (l : LinkFrom) → slice_get news j ≡ Some l → IsLinkMade ins j l

    module _ (ins mids : List LinkFrom) (are-less : AreLess to n what ins mids) where
      -- a link on which nothing was sent
      quiet-one : (j : ℕ) (mid l : LinkFrom) → slice_get mids j ≡ Some mid → l ≡ mid → sent_by (j + 1) to e ≡ [] → v.frames (j + 1) to ≡ w.frames (j + 1) to → IsLinkMade ins j l
      quiet-one j mid l there is none same =
          let was = are-less j mid there in
          record { link = was.link; there = was.there; made = quiet none same (is ∙ was.less_is) }

      pub all-quiet : ((from : ℕ) → sent_by from to e ≡ []) → ((from : ℕ) → v.frames from to ≡ w.frames from to) → AreMade ins mids
      all-quiet none same j l there = quiet-one j l l there refl (none (j + 1)) (same (j + 1))

      pub nothing-made : mark_in what ≡ None → st.frame ≡ None → st.effects.sent ≡ None → AreMade ins mids
      nothing-made unmarked none nowhere = all-quiet (λ from. sent-nowhere n tick what st from to unmarked nowhere) (λ from. frames-none from to none)

      -- its own mark doesn't come to a node
      own-unmarked : (phase : ℕ) → what ≡ Ready phase → st.effects.sent ≡ None → n ≡ to → (from : ℕ) → sent_by from to e ≡ []
      own-unmarked phase is nowhere own from = elim (cases_eq n from) [
        | inl same ↦ (ap (λ (k : ℕ). sent_by k to e) (sym same) ∙ sent-own_mark n tick what st to phase is nowhere own)
        | inr differs ↦ sent-away n tick what st from to differs
      ]

      pub own-mark-made : (phase : ℕ) → what ≡ Ready phase → st.frame ≡ None → st.effects.sent ≡ None → n ≡ to → AreMade ins mids
      own-mark-made phase is none nowhere own = all-quiet (own-unmarked phase is nowhere own) (λ from. frames-none from to none)

      pub mark-made : (phase : ℕ) → what ≡ Ready phase → st.frame ≡ None → st.effects.sent ≡ None → n ≢ to → AreMade ins (marked at phase tick mids)
      mark-made phase is none nowhere away j l there =
          let was = changed-at (mark_with phase tick) at mids (slice_get mids at) j l refl (ap (λ (ls : List LinkFrom). slice_get ls j) (sym (marked-is at phase tick mids)) ∙ there) in
          by-change was.item was.there was.change
        where
          by-change : (mid : LinkFrom) → slice_get mids j ≡ Some mid → IsChanged (mark_with phase tick) at j mid l → IsLinkMade ins j l
          by-change mid stood (here same got) =
              let own : j + 1 ≡ n = ap (λ (k : ℕ). k + 1) same in
              let less-is = are-less j mid stood in
              record {
                link = less-is.link;
                there = less-is.there;
                made =
                    sent_mark phase tick
                    (ap (λ (k : ℕ). sent_by k to e) own ∙ sent-mark n tick what st to phase is nowhere away)
                    (frames-none (j + 1) to none) (mark-there phase (j + 1) is own) (got ∙ ap (mark_with phase tick) less-is.less_is);
              }
          by-change mid stood (elsewhere differs got) =
              quiet-one j mid l stood got (sent-away n tick what st (j + 1) to (λ own. differs (omega (arith, own)))) (frames-none (j + 1) to none)

      -- a frame came
      module _ (m : Message) (x : Sent) (unmarked : mark_in what ≡ None) (is : st.frame ≡ Some m) (sent : st.effects.sent ≡ Some x) (goes : x.to ≡ m.to) where
        -- to another node
        elsewhere-none : to ≢ m.to → (from : ℕ) → sent_by from to e ≡ []
        elsewhere-none away from = elim (cases_eq n from) [
          | inl same ↦ (ap (λ (k : ℕ). sent_by k to e) (sym same) ∙ sent-elsewhere n tick what st to x unmarked sent (λ h. away (sym (sym goes ∙ h))))
          | inr differs ↦ sent-away n tick what st from to differs
        ]

        pub no-frame-made : to ≢ m.to → AreMade ins mids
        no-frame-made away = all-quiet (elsewhere-none away) (λ from. frames-elsewhere m from to is away)

        pub frame-made : (index : ℕ) → m.from ≡ n → to ≡ m.to → ((l : LinkFrom) → slice_get ins at ≡ Some l → index ≡ l.link.frames + 1) → AreMade ins (delivered at (fate_of plan m.from m.to index) m mids)
        frame-made index from-is there next j l stands =
            let fate = fate_of plan m.from m.to index in
            let was = changed-at (link_with fate m) at mids (slice_get mids at) j l refl (ap (λ (ls : List LinkFrom). slice_get ls j) (sym (delivered-is at fate m mids)) ∙ stands) in
            by-change was.item was.there was.change
          where
            by-change : (mid : LinkFrom) → slice_get mids j ≡ Some mid → IsChanged (link_with (fate_of plan m.from m.to index) m) at j mid l → IsLinkMade ins j l
            by-change mid stood (here same got) =
                let fate = fate_of plan m.from m.to index in
                let own : j + 1 ≡ n = ap (λ (k : ℕ). k + 1) same in
                let less-is = are-less j mid stood in
                record {
                  link = less-is.link;
                  there = less-is.there;
                  made =
                      framed fate m
                      (ap (λ (k : ℕ). sent_by k to e) own ∙ sent-frame n tick what st to x unmarked sent (goes ∙ sym there))
                      (frames-there m (j + 1) to is own there)
                      (ap (λ (k : ℕ). fate_of plan k m.to index) (from-is ∙ sym own)
                      ∙ ap (λ (k : ℕ). fate_of plan (j + 1) k index) (sym there)
                      ∙ ap (fate_of plan (j + 1) to) (next less-is.link (ap (slice_get ins) (sym same) ∙ less-is.there)))
                      (got ∙ ap (link_with fate m) less-is.less_is);
                }
            by-change mid stood (elsewhere differs got) =
                let away : j + 1 ≢ n = λ own. differs (omega (arith, own)) in
                quiet-one j mid l stood got (sent-away n tick what st (j + 1) to (λ own. away (sym own))) (frames-away m (j + 1) to is away)
