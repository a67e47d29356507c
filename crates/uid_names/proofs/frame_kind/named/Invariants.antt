use Rattle.std.proofs.Common.{◌≡◌, drop}
use Rattle.uid_names.specs.Texts.{written_so}
use Rattle.uid_names.specs.FrameKinds.{kind_name}
use Rattle.uid_names.proofs.frame_kind.named.Given as goal

abbrev pub invariant-loop-kind : goal.invariant-loop-kind
invariant-loop-kind l = written_so kind_name (drop l.kind-index l.kinds) l.name ≡ written_so kind_name l.kinds l.name
