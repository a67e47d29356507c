-- A pass at the start stands for the first world.
use Rattle.std.proofs.Common.{◌≡◌, ℕ, zero, suc, ◌+◌, ◌*◌, Option, Some, None, IfSome, List, [], ◌∷◌, ◌++◌, length, map, replicate, refl, sym, ap, subst, ◌∙◌}
use Rattle.std.specs.Prelude.{reverse, slice_get}
use Rattle.std.proofs.lemmas.List.{length-replicate, replicate-append-replicate}
use Rattle.std.proofs.lemmas.List.Elements.{All-nil, All-replicate}
use Rattle.dom_history.specs.declared.op.Reply.{Reply}
use Rattle.dom_history.specs.declared.op.Want.{Want}
use Rattle.node_runs.specs.Runs.{first_world, numbered}
use Rattle.node_runs.specs.Setups.{Setup, IsSetup}
use Rattle.journal_check.specs.Links.{link_place}
use Rattle.journal_check.proofs.LinkPlaces.{all-get}
use Rattle.journal_check.specs.Kept.{Kept, IsKeptOf, head_at}
use Rattle.journal_check.specs.Passes.{Made, AreNodesOf, StandsFor, mark_seen}
use Rattle.journal_check.specs.declared.frames.Live.{Live}
use Rattle.journal_check.specs.declared.pass.Pass.{Pass}
use Rattle.journal_check.specs.declared.pass.SentMark.{SentMark}

-- nothing was sent
abbrev pub no_frames : Kept
no_frames = record { heads = []; live = [] }

pub one-link-more : (n : ℕ) (x : Kept) → replicate n x ++ x ∷ [] ≡ replicate (n + 1) x
one-link-more n x = replicate-append-replicate n 1 x

no-head : (index : ℕ) → head_at index [] ≡ None
no-head zero = refl
no-head (suc k) = refl

kept-first : (s : Setup) (from to : ℕ) → IsKeptOf (first_world s) from to no_frames
kept-first s from to = record {
  count = refl;
  heads = no-head;
  told_are = λ index sure. absurd (cc);
  live = All-nil (λ (l : Live). numbered l.index ((first_world s).frames from to) ≡ Some l.frame);
  over = λ index m none sent. absurd (cc);
}

module _ {P G : Type 0} (wants : P → Want) (becomes : P → Option Reply → P) (made : Made P) (s : Setup) where
  pub stands-first : (p : Pass P G) → IsSetup s → AreNodesOf wants becomes made s (first_world s) p.nodes.items → p.frames.items ≡ replicate (length p.nodes.items * length p.nodes.items) no_frames → p.marks.items ≡ [] → p.last ≡ None
      → StandsFor wants becomes made s p (first_world s)
  stands-first p setup nodes frames marks last = record {
    setup = setup;
    run = record { run = refl; recent = tt };
    leads = refl;
    nodes = nodes;
    links = record {
      count = ap (λ (ks : List Kept). length ks) frames ∙ (length-replicate (length p.nodes.items * length p.nodes.items) no_frames ∙ ap (λ k. k * k) nodes.count);
      named = λ from to. tt;
      link = λ from to sender receiver.
          subst (λ (ks : List Kept). IfSome (slice_get ks (link_place s.opening.nodes from to)) (IsKeptOf (first_world s) from to)) (sym frames)
          (all-get (IsKeptOf (first_world s) from to) (replicate (length p.nodes.items * length p.nodes.items) no_frames) (link_place s.opening.nodes from to)
          (All-replicate (IsKeptOf (first_world s) from to) (length p.nodes.items * length p.nodes.items) no_frames (kept-first s from to)));
    };
    marks = ap (λ (ms : List SentMark). map mark_seen (reverse ms)) marks;
    last = last;
  }
