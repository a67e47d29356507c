use Rattle.std.proofs.Common.{◌≡◌, List, ◌∷◌, ◌++◌, subst, arith}
use Rattle.uid_names.specs.Names.{ProcName}
use Rattle.dom_history.specs.declared.op.Entry.{Entry}
use Rattle.dom_history.specs.declared.op.Want.TheVariants.{Do}
use Rattle.dom_history.specs.Follows.{Reaches, FollowsAt, entries_of}
use Rattle.dom_history.specs.Histories.{History, entries}
use Rattle.script_reader.specs.Scripts.{Content, IsContent}
use Rattle.aegis_shell.specs.Asking.{ask}
use Rattle.script_runs.specs.Answers.{heard_behind}
use Rattle.script_runs.proofs.Commands.{asks-lacks}
use Rattle.script_runs.proofs.laws.each_entry_is_of_a_command.Goals as goal

pub returns : goal.returns
returns c =
    let asked : (s : Content) → IsContent s → (h : History) (p : ProcName) → FollowsAt (ask s p) h p → (newer past : List Entry) (e : Entry) → entries_of p (entries h.items) ≡ newer ++ e ∷ past → ask s p (heard_behind s p past) ≡ Do e.op =
    λ s content h p is newer past e same.
    c.entries_say_what_was_heard.ensures.each (ask s p) s.phases ((c.scripts_are_paced.ensures s content).phases p) newer past e is.heard is.phase (subst (λ es. Reaches (ask s p) es is.heard is.phase) same is.reaches) in
    record {
      asked = asked;
      command = λ s content h p is newer past e same. let f = asks-lacks s p (heard_behind s p past) e.op (asked s content h p is newer past e same) in omega (arith, f);
    }
