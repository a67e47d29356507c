-- What a wire puts is what its link would.
use Rattle.std.proofs.Common.{◌≡◌, ℕ, ◌+◌, Bool, true, false, List, [], ◌∷◌, ◌++◌, map, refl, sym, ap, subst, ◌∙◌, arith}
use Rattle.std.specs.Prelude.{not, ◌&&◌}
use Rattle.dom_history.specs.declared.plan.Fate.{Fate}
use Rattle.ring_messages.specs.Frames.{Message}
use Rattle.ring_messages.specs.Bodies.{is_request}
use Rattle.ring_messages.specs.Spelling.{spelling}
use Rattle.node_runs.specs.Deliveries.{in_place, is_gone}
use Rattle.world_runs.specs.Waiting as plain
use Rattle.world_runs.specs.Links as links
use Rattle.ring_links.specs.declared.entry.Entry.{Entry}
use Rattle.ring_links.specs.declared.link.Later.{Later}
use Rattle.ring_links.specs.Carried as carrying
use Rattle.ring_links.specs.Carried.{CarriesFrames, plain_link}
use Rattle.ring_links.proofs.Plain.{plain-frame, plain-mark}
use Rattle.ring_links.proofs.Carrying.{frame-carried, mark-carried}
use Rattle.wire_links.specs.declared.carried.Parcel.{Parcel}
use Rattle.wire_links.specs.declared.carried.Parcel.TheVariants as parcel
use Rattle.wire_links.specs.declared.carried.Carried.{Carried}
use Rattle.wire_links.specs.declared.carried.Carried.TheVariants as carried
use Rattle.wire_links.specs.Carrying.{Wired, gone_if, told_in_place, frame_sent, mark_sent, kept, link_in, Posting, sending_of, wire_after, parcels_of, names_of}
use Rattle.wire_links.proofs.Linking.{all-of}

abbrev queued : ℕ → List (Entry Parcel) → List (Later Parcel) → carrying.Carrying Parcel
queued frames queue later = record { frames = frames; queue = queue; later = later }

pub kept-append : (xs ys : List Carried) → kept (xs ++ ys) ≡ kept xs ++ kept ys
kept-append [] ys = refl
kept-append (carried.Put e ∷ xs) ys = ap (λ (es : List (Entry Parcel)). e ∷ es) (kept-append xs ys)
kept-append (carried.Gone proc number index tick ∷ xs) ys = kept-append xs ys

kept-put : (es : List (Entry Parcel)) → kept (map carried.Put es) ≡ es
kept-put [] = refl
kept-put (e ∷ es) = ap (λ (xs : List (Entry Parcel)). e ∷ xs) (kept-put es)

kept-gone : (b : Bool) (m : Message) (k : ℕ) → kept (gone_if b m k) ≡ []
kept-gone true m k = refl
kept-gone false m k = refl

pub link-frame : (fate : Fate) (m : Message) (l : Wired) → link_in (frame_sent fate m l) ≡ carrying.frame_sent fate (parcel.Frame (spelling m)) (link_in l)
link-frame fate m l =
    let k = l.frames + 1 in
    let waits : List (Later Parcel) = l.later ++ map (carrying.later_copy (parcel.Frame (spelling m))) (links.later_of k fate) in
    let more : List (Entry Parcel) = map (carrying.copy_of (parcel.Frame (spelling m))) (in_place k fate) ++ carrying.falling k waits in
    let later : List (Later Parcel) = carrying.staying k waits in
    let word = told_in_place fate m k in
    let behind : kept (word ++ map carried.Put more) ≡ more =
    kept-append word (map carried.Put more) ∙ ap (λ (es : List (Entry Parcel)). es ++ kept (map carried.Put more)) (kept-gone (is_gone fate && not (is_request m.body)) m k) ∙ kept-put more in
    ap (λ (q : List (Entry Parcel)). queued k q later)
    (kept-append l.put (word ++ map carried.Put more) ∙ ap (λ (es : List (Entry Parcel)). kept l.put ++ es) behind)

pub link-mark : (phase tick : ℕ) (l : Wired) → link_in (mark_sent phase tick l) ≡ carrying.mark_sent phase (parcel.Mark tick) (link_in l)
link-mark phase tick l = ap (λ (q : List (Entry Parcel)). queued l.frames q l.later) (kept-append l.put (carried.Put (carrying.mark_of (parcel.Mark tick) phase) ∷ []))

pub plain-after : (fate : ℕ → Fate) (xs : List Posting) → plain_link (link_in (wire_after fate xs)) ≡ links.link_after fate (map sending_of xs) links.empty_link
plain-after fate [] = refl
plain-after fate (Posting.Frame m ∷ xs) =
    let l = wire_after fate xs in
    ap plain_link (link-frame (fate (l.frames + 1)) m l)
    ∙ plain-frame (fate (l.frames + 1)) (parcel.Frame (spelling m)) (link_in l)
    ∙ ap (λ (p : links.Link). links.frame_sent (fate (p.frames + 1)) p) (plain-after fate xs)
plain-after fate (Posting.Mark phase tick ∷ xs) =
    let l = wire_after fate xs in
    ap plain_link (link-mark phase tick l)
    ∙ plain-mark phase (parcel.Mark tick) (link_in l)
    ∙ ap (links.mark_sent phase) (plain-after fate xs)

pub names-after : (fate : ℕ → Fate) (xs : List Posting) → names_of (wire_after fate xs).put ≡ plain.entries fate (map sending_of xs)
names-after fate xs = ap (λ (p : links.Link). p.queue) (plain-after fate xs) ∙ (all-of fate (map sending_of xs)).queue

pub carries-after : (fate : ℕ → Fate) (xs : List Posting) → CarriesFrames (parcels_of xs) (link_in (wire_after fate xs))
carries-after fate [] = record { frames = refl; queue = λ i d at. absurd (omega (arith, at)); later = λ i d at. absurd (omega (arith, at)) }
carries-after fate (Posting.Frame m ∷ xs) =
    let l = wire_after fate xs in
    subst (CarriesFrames (parcels_of (Posting.Frame m ∷ xs))) (sym (link-frame (fate (l.frames + 1)) m l))
    (frame-carried (fate (l.frames + 1)) (parcel.Frame (spelling m)) (parcels_of xs) (link_in l) (carries-after fate xs))
carries-after fate (Posting.Mark phase tick ∷ xs) =
    let l = wire_after fate xs in
    subst (CarriesFrames (parcels_of xs)) (sym (link-mark phase tick l))
    (mark-carried phase (parcel.Mark tick) (parcels_of xs) (link_in l) (carries-after fate xs))

-- fates that say the same make the same wire
pub wire-alike : (f g : ℕ → Fate) → ((index : ℕ) → f index ≡ g index) → (xs : List Posting) → wire_after f xs ≡ wire_after g xs
wire-alike f g alike [] = refl
wire-alike f g alike (Posting.Frame m ∷ xs) =
    let l = wire_after f xs in
    ap (λ (fate : Fate). frame_sent fate m l) (alike (l.frames + 1))
    ∙ ap (λ (w : Wired). frame_sent (g (w.frames + 1)) m w) (wire-alike f g alike xs)
wire-alike f g alike (Posting.Mark phase tick ∷ xs) = ap (mark_sent phase tick) (wire-alike f g alike xs)
