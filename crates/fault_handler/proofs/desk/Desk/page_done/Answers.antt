use Rattle.std.proofs.Common.{◌≡◌, ◌∙◌, ℕ, List, Option, None, Some, sym, ap}
use Rattle.fault_handler.specs.declared.transits.Transit.{Transit}
use Rattle.fault_handler.specs.Desks.{DeskState, at, moving_of}
use Rattle.fault_handler.specs.Insides.{desk_of}
use Rattle.fault_handler.proofs.TransitKeeps.{going-of, going-resident, IsDesk-with_page_done}
use Rattle.fault_handler.proofs.desk.Desk.page_done.Goals as goal

-- the page that the process moves
moved-is : (d : DeskState) (p : ℕ) (moving : List (Option Transit)) (found : Option Transit) (t : Transit) → moving ≡ d.moving → found ≡ at moving p None → found ≡ Some t → moving_of d p ≡ Some t
moved-is d p moving found t kept looked some = ap (λ (ms : List (Option Transit)). at ms p None) (sym kept) ∙ sym looked ∙ some

pub settle-requires : goal.settle-requires
settle-requires c =
    let goes = going-of (desk_of c.self.inside) c.args.proc.number c.self.invariant c.transit_of.ensures.process (rw (← c.self.view_is) at c.requires.other) c.in-Some.transit (moved-is (desk_of c.self.inside) c.args.proc.number _ _ c.in-Some.transit c.moving.ensures c.transit_of.ensures.value c.in-Some.is) in
    record {
      resident = (going-resident (desk_of c.self.inside) c.args.proc.number c.self.invariant c.transit_of.ensures.process c.in-Some.transit.uid c.in-Some.transit.page goes).0;
      moves = goes;
      apart = c.self.invariant.moved.apart;
    }

pub invariant_of-self : goal.invariant_of-self
invariant_of-self c =
    let kept = IsDesk-with_page_done (desk_of c.self.inside) c.args.proc.number c.self.invariant c.transit_of.ensures.process c.args.taken (rw (← c.self.view_is) at c.requires.other) in
    rw c.settle.ensures (rw (moved-is (desk_of c.self.inside) c.args.proc.number _ _ c.in-Some.transit c.moving.ensures c.transit_of.ensures.value c.in-Some.is) at kept)
