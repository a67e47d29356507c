-- What holds of runs of posts from the start.
use Rattle.std.specs.Prelude.{ℕ, Option, List}
use Rattle.dom_history.specs.declared.op.Reply.{Reply}
use Rattle.dom_history.specs.declared.op.Want.{Want}
use Rattle.dom_history.specs.declared.plan.FateRow.{FateRow}
use Rattle.node_runs.specs.Setups.{Setup}
use Rattle.node_posts.specs.declared.post.Post.{Post}
pub use Rattle.node_posts.specs.Starts.{AreNodes, ArePosts, AreRings}

module _ {P G : Type 0} (wants : P → Want) (becomes : P → Option Reply → P) where
  -- it holds of each setup, of the programs that were made and of each plan by which these are the posts at the start
  abbrev pub OfEachStart : ℕ → List (Post P G) → ((ℕ → ℕ → Option P) → Setup → List FateRow → Type 0) → Type 0
  OfEachStart limit posts Q = (made : ℕ → ℕ → Option P) (s : Setup) (plan : List FateRow) → ArePosts wants becomes limit made s plan posts → Q made s plan
