use Rattle.std.proofs.Common.{rules, ◌≡◌, Some}
use Rattle.dir_records.specs.Paths.{route_of}
use Rattle.naming_tree.proofs.walking.Walking.leave_link.Goals as goal

pub returns-in-Some : goal.returns-in-Some
returns-in-Some c =
    let path : route_of c.args.self.now.reading.bytes ≡ Some c.in-Some.route = search rules in
    rw path c.go_along.ensures
