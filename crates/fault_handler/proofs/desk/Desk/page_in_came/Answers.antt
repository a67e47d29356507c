use Rattle.std.proofs.Common.{◌≡◌, ◌∙◌, ap, refl, nat_lt, true, List, [], arith}
use Rattle.std.specs.Option.{unwrap_or}
use Rattle.std.proofs.lemmas.Bool.Decides.{nat_tests}
use Rattle.page_cache.specs.Caches.{Resident}
use Rattle.fault_handler.specs.Desks.{base_of}
use Rattle.fault_handler.specs.Changes.{with_pages, with_raised, with_arrival}
use Rattle.fault_handler.proofs.Replying.{gives-old, arrived-last}
use Rattle.fault_handler.proofs.desk.Desk.page_in_came.Goals as goal

pub returns-then-stamp-unwrap_or-clause-outcome : goal.returns-then-stamp-unwrap_or-clause-outcome
returns-then-stamp-unwrap_or-clause-outcome c =
    let base : c.unwrap_or.result ≡ base_of c.args.self.now.seen c.args.uid = rw (← c.self.view_is) (c.unwrap_or.ensures ∙ ap (λ o. unwrap_or o 0) c.of.ensures) in
    let older : nat_lt c.args.stamp (base_of c.args.self.now.seen c.args.uid) ≡ true = rw (← base) (grind (arith, nat_tests)) in
    rw c.asked_again.ensures
    (gives-old c.args.self.now c.args.proc.number c.kept.ensures.desk c.kept.ensures.process c.args.uid c.args.page c.requires.coming _ c.args.stamp c.args.bytes.now _ [] older refl refl refl)

pub perform-reply-requires-clause-last : goal.perform-reply-requires-clause-last
perform-reply-requires-clause-last c =
    rw (c.raise.ensures, c.in_ok-task.ensures.arrived)
    (ap (λ (pages : List Resident). with_pages (with_raised (with_arrival c.args.self.now c.args.proc.number c.args.uid c.args.page c.args.bytes.now) c.args.uid c.args.stamp) pages) (arrived-last c.args.self.now c.args.proc.number c.kept.ensures.desk c.kept.ensures.process c.args.uid c.args.page c.requires.coming c.args.bytes.now c.in_ok-task.task c.in_ok-task.ensures.task))
