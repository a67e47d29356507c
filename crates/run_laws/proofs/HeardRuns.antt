-- What a program heard is what its entries say.
use Rattle.std.proofs.Common.{◌≡◌, ◌≢◌, ℕ, zero, suc, ◌+◌, ◌-◌, ◌≤◌, ◌<◌, List, [], ◌∷◌, ◌++◌, Some, None, refl, sym, ap, ◌∙◌, arith}
use Rattle.dom_history.specs.declared.op.Entry.{Entry}
use Rattle.dom_history.specs.declared.op.Op.{Op}
use Rattle.dom_history.specs.declared.op.Want.{Want}
use Rattle.dom_history.specs.declared.op.Want.TheVariants.{Do, Phase, Done}
use Rattle.dom_history.specs.Follows.{Heard, Reaches, starts, answered, passed}
use Rattle.run_laws.specs.Paced.{IsPacedTo}
use Rattle.run_laws.specs.HeardOf.{with_phases, heard_by_phase, on_phase, with_asked_phases, heard_of}

-- the phase of the last entry, at least
abbrev phase_at : List Entry → ℕ
phase_at [] = 1
phase_at (e ∷ past) = e.phase

reaches-least : {ask : Heard → Want} {es : List Entry} {heard : Heard} {phase : ℕ} → Reaches ask es heard phase → 1 ≤ phase
reaches-least starts = omega arith
reaches-least (answered e is asks same) = reaches-least is
reaches-least (passed is asks) = omega arith

reaches-above : {ask : Heard → Want} {es : List Entry} {heard : Heard} {phase : ℕ} → Reaches ask es heard phase → phase_at es ≤ phase
reaches-above starts = omega arith
reaches-above (answered e is asks same) = omega (arith, same)
reaches-above (passed is asks) = let low = reaches-above is in omega (arith, low)

one-more : (k n : ℕ) (heard : Heard) → n ≡ suc k → None ∷ with_phases k heard ≡ with_phases n heard
one-more k n heard same = sym (ap (λ m. with_phases m heard) same)

none-more : (n : ℕ) (heard : Heard) → n ≡ 0 → heard ≡ with_phases n heard
none-more n heard same = sym (ap (λ m. with_phases m heard) same)

by-next : (es : List Entry) (phase : ℕ) → phase_at es ≤ phase → None ∷ heard_by_phase es phase ≡ heard_by_phase es (suc phase)
by-next [] phase low = one-more (phase - 1) (suc phase - 1) [] (omega (arith, low))
by-next (e ∷ past) phase low = one-more (phase - e.phase) (suc phase - e.phase) (Some e.reply ∷ heard_by_phase past e.phase) (omega (arith, low))

pub reaches-by : {ask : Heard → Want} {es : List Entry} {heard : Heard} {phase : ℕ} → Reaches ask es heard phase → heard ≡ heard_by_phase es phase
reaches-by starts = refl
reaches-by (answered {past} {heard} {phase} e is asks same) =
    ap (λ h. Some e.reply ∷ h) (reaches-by is ∙ ap (heard_by_phase past) (sym same))
    ∙ none-more (phase - e.phase) (Some e.reply ∷ heard_by_phase past e.phase) (omega (arith, same))
reaches-by (passed {past} {heard} {phase} is asks) = ap (λ h. None ∷ h) (reaches-by is) ∙ by-next past phase (reaches-above is)

-- one that asks for no phase passes none
with_asked_phases-none : (ask : Heard → Want) (k : ℕ) (heard : Heard) → ask heard ≢ Phase → with_asked_phases ask k heard ≡ heard
with_asked_phases-none ask zero heard apart = refl
with_asked_phases-none ask (suc k) heard apart = by (ask heard) apart
  where
    by : (want : Want) → want ≢ Phase → on_phase want (with_asked_phases ask k (None ∷ heard)) heard ≡ heard
    by Phase apart = absurd (apart refl)
    by (Do op) apart = refl
    by Done apart = refl

-- what it heard, and the phases that it has still to pass
record IsHeardOf (ask : Heard → Want) (phases : ℕ) (es : List Entry) (heard : Heard) (phase : ℕ) : Type 0 where
  pub left : ℕ
  pub enough : phases + 1 ≤ left + phase
  pub is : heard_of ask phases es ≡ with_asked_phases ask left heard

module _ (ask : Heard → Want) (phases : ℕ) (paced : IsPacedTo ask phases) where
  apart-do : (heard : Heard) (op : Op) → ask heard ≡ Do op → ask heard ≢ Phase
  apart-do heard op asks phase = let f : Do op ≡ Phase = sym asks ∙ phase in cc

  next-phase : (es : List Entry) (heard : Heard) (phase left : ℕ) → phase < phases → ask heard ≡ Phase → phases + 1 ≤ left + phase → heard_of ask phases es ≡ with_asked_phases ask left heard → IsHeardOf ask phases es (None ∷ heard) (suc phase)
  next-phase es heard phase zero within asks enough is = absurd (omega (arith, within, enough))
  next-phase es heard phase (suc k) within asks enough is = record {
    left = k;
    enough = omega (arith, enough);
    is = is ∙ ap (λ want. on_phase want (with_asked_phases ask k (None ∷ heard)) heard) asks;
  }

  reaches-of : {es : List Entry} {heard : Heard} {phase : ℕ} → Reaches ask es heard phase → IsHeardOf ask phases es heard phase
  reaches-of starts = record { left = phases; enough = omega arith; is = refl }
  reaches-of (answered {past} {heard} {phase} e is asks same) =
      let before = reaches-of is in
      let low = reaches-least is in record {
        left = phases;
        enough = omega (arith, low);
        is = ap (λ h. with_asked_phases ask phases (Some e.reply ∷ h)) (before.is ∙ with_asked_phases-none ask before.left heard (apart-do heard e.op asks));
      }
  reaches-of (passed {past} {heard} {phase} is asks) =
      let before = reaches-of is in
      next-phase past heard phase before.left (paced past heard phase is asks) asks before.enough before.is

  pub heard-is : (es : List Entry) (heard : Heard) (phase : ℕ) → Reaches ask es heard phase → ask heard ≢ Phase → heard ≡ heard_of ask phases es
  heard-is es heard phase is apart = let of = reaches-of is in sym (of.is ∙ with_asked_phases-none ask of.left heard apart)

  by_head : (newer past : List Entry) (x e : Entry) (older : List Entry) (heard : Heard) → x ∷ older ≡ newer ++ e ∷ past → ask heard ≡ Do x.op → heard ≡ heard_of ask phases older
      → ((more : List Entry) → older ≡ more ++ e ∷ past → ask (heard_of ask phases past) ≡ Do e.op) → ask (heard_of ask phases past) ≡ Do e.op
  by_head [] past x e older heard same asks is before =
      let rest : older ≡ past = cc in
      let first : x ≡ e = cc in
      sym (ap ask (is ∙ ap (heard_of ask phases) rest)) ∙ (asks ∙ ap (λ (y : Entry). Do y.op) first)
  by_head (y ∷ newer) past x e older heard same asks is before = before newer (cc)

  no-entry : (newer past : List Entry) (e : Entry) → [] ≡ newer ++ e ∷ past → ⊥
  no-entry [] past e same = cc
  no-entry (x ∷ newer) past e same = cc

  -- each entry is what the program asked for behind those before it
  asked-for : (newer rest : List Entry) (e : Entry) {es : List Entry} {heard : Heard} {phase : ℕ} → Reaches ask es heard phase → es ≡ newer ++ e ∷ rest → ask (heard_of ask phases rest) ≡ Do e.op
  asked-for newer rest e starts same = absurd (no-entry newer rest e same)
  asked-for newer rest e (answered {past} {heard} {phase} x is asks in_phase) same =
      by_head newer rest x e past heard same asks (heard-is past heard phase is (apart-do heard x.op asks)) (λ more behind. asked-for more rest e is behind)
  asked-for newer rest e (passed is asks) same = asked-for newer rest e is same

  pub each-asked : (newer rest : List Entry) (e : Entry) (heard : Heard) (phase : ℕ) → Reaches ask (newer ++ e ∷ rest) heard phase → ask (heard_of ask phases rest) ≡ Do e.op
  each-asked newer rest e heard phase is = asked-for newer rest e is refl
