use Rattle.std.proofs.Common.{rules, ◌≡◌, ◌≤◌, ◌+◌, ◌++◌, ◌∷◌, [], false, true, length, ap, sym, subst, ◌∙◌, arith}
use Rattle.uid_names.specs.declared.limits.TheConstants.{VOLUME_ROOM}
use Rattle.uid_names.specs.declared.mode.ObjKind.TheVariants.{File}
use Rattle.script_reader.specs.Walk.Index.{DeclaresAlso}
use Rattle.uid_names.specs.Wires.{wire_room}
use Rattle.script_reader.specs.Scripts.{wire_of}
use Rattle.script_reader.specs.Limits.{pages_at}
use Rattle.script_reader.specs.After.{next_uid}
use Rattle.script_reader.specs.Variables.{is_declared}
use Rattle.script_reader.specs.Words.{is_name}
use Rattle.script_reader.proofs.Declaring.{undeclared}
use Rattle.script_reader.proofs.Drafting.{greatest_of, count_is, count_small, held-object}
use Rattle.script_reader.proofs.draft.Draft.add_object.Goals as goal

pub overflow_add-self : goal.overflow_add-self
overflow_add-self c =
    let small = count_small c.self.inside c.args.home c.home_index-at.result c.self.invariant c.home_index-at.ensures.least c.home_index-at.ensures.greatest c.home_index-at.ensures.value in
    omega (arith, small)

pub invariant_of-self-2 : goal.invariant_of-self-2
invariant_of-self-2 c =
    let d = c.self.inside in
    let s = c.args.self.now in
    let home = c.args.home in
    let at = c.home_index-at.result in
    let uid = c.from_parts-uid.result in
    let name = c.in_ok-name.name in
    let u : uid ≡ next_uid d.starts.items home = c.from_parts-uid.ensures ∙ ap (λ n. record { counter = n + 2; home = home }) (count_is d home at c.self.invariant c.home_index-at.ensures.least c.home_index-at.ensures.greatest c.home_index-at.ensures.value) in
    let es : c.push.new.self.items ≡ d.starts.items ++ record { uid = uid; kind = File; room = c.args.room } ∷ [] = search rules in
    let eo : c.push-2.new.self.items ≡ d.objects.items ++ record { var = name; uid = uid } ∷ [] = search rules in
    let also : DeclaresAlso d.declared c.add.new.self name uid = subst (λ v. DeclaresAlso d.declared c.add.new.self v uid) (sym c.in_ok-name.ensures) c.in_ok-add.ensures.ok in
    let named : is_name name ≡ true = ap is_name c.in_ok-name.ensures ∙ c.requires.name in
    let most : home ≤ length d.nodes.items = subst (λ t. home ≤ length t.nodes) (sym c.self.view_is) c.requires.home in
    let new : is_declared d.objects.items name ≡ false = ap (is_declared d.objects.items) c.in_ok-name.ensures ∙ (ap (λ t. is_declared t.objects c.args.var.now) c.self.view_is ∙ c.requires.new) in
    let none : d.commands.items ≡ [] = ap (λ t. t.commands) c.self.view_is ∙ c.requires.first in
    let fits : pages_at home d.starts.items + c.args.room ≤ VOLUME_ROOM = subst (λ t. pages_at home t.opening.objects + c.args.room ≤ VOLUME_ROOM) (sym c.self.view_is) c.requires.fits in
    let low : c.args.room ≤ greatest_of d = subst (λ t. c.args.room ≤ wire_room (wire_of t)) (sym c.self.view_is) c.requires.low in
    held-object d c.push.new.self c.push-2.new.self c.add.new.self name home c.args.room at uid c.self.invariant u c.number-range.ensures.name es eo also named c.home_index-at.ensures.least most c.home_index-at.ensures.value c.requires.room low new none fits

pub add-requires : goal.add-requires
add-requires c =
    let var = c.args.var.now in
    record { new = c.self.invariant.declared var ∙ undeclared c.self.inside.objects.items var (ap (λ t. is_declared t.objects var) c.self.view_is ∙ c.requires.new) }
