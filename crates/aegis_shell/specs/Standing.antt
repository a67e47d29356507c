-- Where a process stands: what its variables are bound to, and its working directory.
use Rattle.std.specs.Prelude.{ℕ, ◌==◌, cond, List, [], ◌∷◌, ◌++◌, codes}
use Rattle.node_texts.specs.Texts.{node_text}
use Rattle.naming_tree.specs.declared.site.Site.{Site}
use Rattle.aegis_shell.specs.Bound.{Bound, unbound}
use Rattle.aegis_shell.specs.Work.{Part}
use Rattle.aegis_shell.specs.declared.working.Working.{Working}

pub record Standing : Type 0 where
  pub bound : Bound
  pub working : Working

-- where the names of a process's commands are looked up
abbrev pub site_of : Part → Site
site_of part = record { own = part.node; names = part.names }

-- a node as a path
abbrev pub node_path : Part → List ℕ
node_path part = codes "//" ++ node_text part.names part.node

-- the entry directory of the process's node
abbrev pub first_working : Part → Working
first_working part = record { dir = record { counter = 1; home = part.node }; text = node_path part }

-- nothing is bound, and the working directory is the node's entry directory
abbrev pub first_standing : Part → Standing
first_standing part = record { bound = unbound; working = first_working part }

-- the text of a directory to which a path leads that begins with one slash
abbrev pub from_own : List ℕ → List ℕ → List ℕ
from_own own [] = own
from_own own (b ∷ rest) = own ++ 47 ∷ b ∷ rest

-- behind a slash
abbrev pub behind_slash : List ℕ → List ℕ → List ℕ
behind_slash own [] = from_own own []
behind_slash own (b ∷ rest) = cond (b == 47) (47 ∷ b ∷ rest) (from_own own (b ∷ rest))

-- the text of the directory to which a path leads from another
abbrev pub path_text : List ℕ → List ℕ → List ℕ → List ℕ
path_text own old [] = old ++ codes "/"
path_text own old (b ∷ rest) = cond (b == 47) (behind_slash own rest) (old ++ codes "/" ++ b ∷ rest)

abbrev pub text_at : Part → Working → List ℕ → List ℕ
text_at part working path = path_text (node_path part) working.text path
