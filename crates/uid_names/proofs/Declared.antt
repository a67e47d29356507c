-- An opening stays one with an object more.
use Rattle.std.proofs.Common.{◌≡◌, ◌≤◌, false, List, [], ◌∷◌, ◌++◌, ap, sym, subst, rules, arith}
use Rattle.std.proofs.lemmas.List.Elements.{All-push, All-head, All-tail}
use Rattle.std.proofs.lemmas.Bool.Decides.{nat_tests}
use Rattle.uid_names.specs.declared.opening.Object.{Object}
use Rattle.uid_names.specs.Names.{ObjectName, same_uid}
use Rattle.uid_names.specs.Openings.{Start, IsStart, IsDeclarable, IsUnnamed, AreNamedApart, with_object}

turned : (u v : ObjectName) → same_uid v u ≡ false → same_uid u v ≡ false
turned u v ne = grind (arith, nat_tests)

apart-push : (os : List Object) (o : Object) → AreNamedApart os → IsUnnamed o.uid os → AreNamedApart (os ++ o ∷ [])
apart-push [] o a fresh = (search rules, tt)
apart-push (x ∷ os) o a fresh = (
  All-push (λ q. same_uid q.uid x.uid ≡ false) os o a.0 (turned o.uid x.uid (All-head (λ q. same_uid q.uid o.uid ≡ false) x os fresh)),
  apart-push os o a.1 (All-tail (λ q. same_uid q.uid o.uid ≡ false) x os fresh),
)

IsStart-push : (s : Start) (o : Object) → IsStart s → IsDeclarable s.nodes s.greatest o → IsUnnamed o.uid s.objects → IsStart (with_object s o)
IsStart-push s o kept may fresh = record {
  nodes_low = kept.nodes_low;
  nodes_high = kept.nodes_high;
  greatest_low = kept.greatest_low;
  greatest_high = kept.greatest_high;
  objects = All-push (IsDeclarable s.nodes s.greatest) s.objects o kept.objects may;
  apart = apart-push s.objects o kept.apart fresh;
}

-- the same, where the opening is known by another spelling
pub IsStart-added : (s t : Start) (o : Object) → s ≡ t → IsStart s → 2 ≤ o.uid.counter → o.uid.home ≤ t.nodes → (1 ≤ o.room) × (o.room ≤ t.greatest) → IsUnnamed o.uid t.objects → IsStart (with_object s o)
IsStart-added s t o same kept counter home room fresh =
    let nodes : s.nodes ≡ t.nodes = ap (λ x. x.nodes) same in
    let greatest : s.greatest ≡ t.greatest = ap (λ x. x.greatest) same in
    IsStart-push s o kept
    (record { counter = counter; home = omega arith; room_low = room.0; room_high = omega arith })
    (subst (λ (x : Start). IsUnnamed o.uid x.objects) (sym same) fresh)
