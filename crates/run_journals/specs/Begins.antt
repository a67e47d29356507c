-- What a run of a script begins with.
use Rattle.uid_names.specs.Openings.{IsStart}
use Rattle.script_reader.specs.Scripts.{Content, IsContent}

-- the script has a content and an opening that what is said of its runs asks for
pub record CanRun (s : Content) : Type 0 where
  pub content : IsContent s
  pub start : IsStart s.opening
