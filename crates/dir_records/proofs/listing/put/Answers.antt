use Rattle.std.proofs.Common.{rules, ◌≡◌, ◌∙◌, ap}
use Rattle.std.specs.Prelude.{insert}
use Rattle.std.specs.List.{prefix_len}
use Rattle.dir_records.specs.Listings.{row_below}
use Rattle.dir_records.proofs.RowPlaces.{put_at}
use Rattle.dir_records.proofs.listing.put.Goals as goal

pub returns : goal.returns
returns c =
    let place : c.place_among-place.result ≡ prefix_len (λ x. row_below x c.args.row.now) c.args.rows.now.items = search rules in
    c.in_ok-insert.ensures.items ∙ ap (λ n. insert c.args.rows.now.items n c.args.row.now) place ∙ put_at c.args.row.now c.args.rows.now.items
