use Rattle.std.proofs.Common.{rules, ◌≡◌, ◌+◌, ◌-◌, ◌%◌, ◌/◌, ℕ, List, length, take, drop, arith, subst, ◌∙◌}
use Rattle.std.proofs.lemmas.Result.{IfOk-weaker}
use Rattle.uid_names.specs.Openings.{Start}
use Rattle.uid_names.specs.declared.limits.TheConstants.{PAGE_BYTES}
use Rattle.dom_history.specs.StoreEffects.{StoreEffect}
use Rattle.dom_history.specs.Bytes.{bytes_from}
use Rattle.plain_store.specs.KeptPages.{page_in, HoldBytes}
use Rattle.plain_store.proofs.PageBytes.{kept-bytes}
use Rattle.plain_store.proofs.pages.Pages.load.Goals as goal

pub returns-clause-bytes : goal.returns-clause-bytes
returns-clause-bytes c =
    let l : length c.page-page.result ≡ PAGE_BYTES = search rules in
    let size : length (page_in c.args.self.now c.args.uid (c.args.offset / PAGE_BYTES)) ≡ PAGE_BYTES = subst (λ (p : List ℕ). length p ≡ PAGE_BYTES) c.page-page.ensures l in
    let k : c.args.offset % PAGE_BYTES + c.args.count - c.args.offset % PAGE_BYTES ≡ c.args.count = omega arith in
    let read : (list : List ℕ) → list ≡ take (c.args.offset % PAGE_BYTES + c.args.count - c.args.offset % PAGE_BYTES) (drop (c.args.offset % PAGE_BYTES) c.page-page.result)
    → (opening : Start) (past : List StoreEffect) → HoldBytes c.args.self.now opening past → list ≡ bytes_from opening past c.args.uid c.args.offset c.args.count =
    λ list e opening past held. e ∙ rw (k, c.page-page.ensures) (kept-bytes c.args.self.now c.args.uid c.args.offset c.args.count opening past held c.requires size) in
    IfOk-weaker c.from_slice.result _ _ read c.from_slice.ensures
