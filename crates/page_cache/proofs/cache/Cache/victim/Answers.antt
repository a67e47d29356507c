use Rattle.std.proofs.Common.{◌≡◌, ◌<◌, ◌∙◌, sym, ap, count_by, arith}
use Rattle.std.specs.Option.{option_map, option_or}
use Rattle.page_cache.specs.Victims.{is_clean_choice, is_dirty_choice, oldest, name_of}
use Rattle.page_cache.proofs.PageLemmas.{oldest-none, oldest-some, IfSome-oldest}
use Rattle.page_cache.proofs.cache.Cache.victim.Goals as goal

pub returns-then-self-eq0-clause-victim : goal.returns-then-self-eq0-clause-victim
returns-then-self-eq0-clause-victim c =
    let pages = c.args.self.now.pages in
    let none : count_by is_clean_choice pages ≡ 0 = rw (← c.self.view_is) (sym c.self.invariant.1 ∙ c.if-self-eq0.true) in
    c.oldest_dirty.ensures.choice ∙ ap (λ o. option_map name_of (option_or o (oldest is_dirty_choice pages))) (sym (oldest-none is_clean_choice pages none))

pub returns-else-self-eq0-clause-victim : goal.returns-else-self-eq0-clause-victim
returns-else-self-eq0-clause-victim c =
    let pages = c.args.self.now.pages in
    let some : 0 < count_by is_clean_choice pages = rw (← c.self.view_is) (omega (arith, c.self.invariant.1, c.if-self-eq0.false)) in
    c.oldest_clean.ensures.choice ∙ ap (option_map name_of) (sym (oldest-some is_clean_choice pages (oldest is_dirty_choice pages) some))

pub returns-then-self-eq0-clause-resident : goal.returns-then-self-eq0-clause-resident
returns-then-self-eq0-clause-resident c = IfSome-oldest c.args.self.now.pages c.oldest_dirty.ensures.cache.pages is_dirty_choice c.oldest_dirty.result c.oldest_dirty.ensures.choice

pub returns-else-self-eq0-clause-resident : goal.returns-else-self-eq0-clause-resident
returns-else-self-eq0-clause-resident c = IfSome-oldest c.args.self.now.pages c.oldest_clean.ensures.cache.pages is_clean_choice c.oldest_clean.result c.oldest_clean.ensures.choice
