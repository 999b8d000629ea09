-- Needed pieces and their marks.
use Rattle.std.proofs.Common.{◌≡◌, ◌≢◌, ℕ, ◌+◌, ◌<◌, Option, Some, None, List, [], ◌∷◌, ◌++◌, length, take, get_or, set, sym, ◌∙◌, ap, subst, inl, inr, arith, replicate}
use Rattle.std.specs.Prelude.{Contains, All}
use Rattle.std.proofs.lemmas.Grind.{common_steps}
use Rattle.std.proofs.lemmas.Bool.{cases_eq, cases_lt}
use Rattle.std.proofs.lemmas.List.{get_or-set_same, get_or-set_other, get_or_past, get_or-replicate, length-replicate, take_more}
use Rattle.std.proofs.lemmas.List.Elements.{Contains-get_or, Contains-append_left, Contains-push, Contains-push_cases, All-contains, All-from_get_or, All-weaker}
use Rattle.std.proofs.lemmas.Option.{none-some, same_Some, slice_get-get_or, get_or_from_slice_get}
use Rattle.orders.specs.Work.{NeedsIsEarlier, FetchedIsNeeded, NeedsServe}
use Rattle.orders.specs.Claimed.{IsBefore, IsClaimedBy, HasOwnerAmong, HasMarkedOwner, IsMarkedBefore, AreMarked}
use Rattle.orders.proofs.Claiming.{place_of}

-- one more piece needs only earlier ones
earlier_more : (needs : ℕ → List ℕ) (p : ℕ) → NeedsIsEarlier p needs → All (λ n. n < p) (needs p) → NeedsIsEarlier (p + 1) needs
earlier_more needs p h all q n lt has = elim (cases_eq q p) [
  | inl e ↦ (let P : ℕ → Type 0 = λ x. Contains (needs x) n in let less : n < p = All-contains (λ m. m < p) (needs p) n all (subst P e has) in omega arith)
  | inr ne ↦ h q n (omega arith) has
]

pub earlier_at : (needs : ℕ → List ℕ) (pieces p : ℕ) → p < pieces → NeedsIsEarlier pieces needs → All (λ n. n < p) (needs p)
earlier_at needs pieces p lt h = All-from_get_or (λ n. n < p) (needs p) 0 (λ i less. h p (get_or (needs p) i 0) lt (Contains-get_or (needs p) i 0 less))

-- once all is claimed, the owner of a cell is the piece whose own cell it is
owner_own : (own : ℕ → List ℕ) (owners : List (Option ℕ)) (needs : List ℕ) (pieces cell : ℕ) → IsClaimedBy own owners pieces → HasOwnerAmong owners needs cell → (needed : ℕ) × Contains needs needed × Contains (own needed) cell
owner_own own owners needs pieces cell s h =
    let known : (b : ℕ) × (b < length (own h.0)) × IsBefore h.0 b pieces 0 × (get_or (own h.0) b 0 ≡ cell) = s.only cell h.0 (get_or_from_slice_get owners cell (Some h.0) None h.1) in
    let P : ℕ → Type 0 = λ c. Contains (own h.0) c in
    (h.0, h.2, subst P known.3 (Contains-get_or (own h.0) known.0 0 known.1))

own_owner : (own : ℕ → List ℕ) (owners : List (Option ℕ)) (needs : List ℕ) (pieces cell : ℕ) → IsClaimedBy own owners pieces → All (λ n. n < pieces) needs → (needed : ℕ) × Contains needs needed × Contains (own needed) cell → HasOwnerAmong owners needs cell
own_owner own owners needs pieces cell s below h =
    let place : (a : ℕ) × (a < length (own h.0)) × (get_or (own h.0) a 0 ≡ cell) = place_of (own h.0) cell h.2 in
    let held : get_or owners (get_or (own h.0) place.0 0) None ≡ Some h.0 = s.each h.0 place.0 place.1 (inl (All-contains (λ n. n < pieces) needs h.0 below h.1)) in
    let at : get_or owners cell None ≡ Some h.0 = sym (ap (λ c. get_or owners c None) place.2) ∙ held in
    let within : cell < length owners = elim (cases_lt cell (length owners)) [ inl lt ↦ lt | inr past ↦ absurd (none-some h.0 (sym (get_or_past owners cell None past) ∙ at)) ] in
    (h.0, slice_get-get_or owners cell None within ∙ ap Some at, h.1)

needed_more : (own fetched needs : ℕ → List ℕ) (owners : List (Option ℕ)) (pieces p : ℕ) → IsClaimedBy own owners pieces → FetchedIsNeeded p own fetched needs → All (λ c. HasOwnerAmong owners (needs p) c) (fetched p) → FetchedIsNeeded (p + 1) own fetched needs
needed_more own fetched needs owners pieces p s h all q c lt has = elim (cases_eq q p) [
  | inl e ↦ (let P : ℕ → Type 0 = λ x. Contains (fetched x) c in
      let Q : ℕ → Type 0 = λ x. (needed : ℕ) × Contains (needs x) needed × Contains (own needed) c in
      subst Q (sym e) (owner_own own owners (needs p) pieces c s (All-contains (λ d. HasOwnerAmong owners (needs p) d) (fetched p) c all (subst P e has))))
  | inr ne ↦ h q c (omega arith) has
]

needed_at : (own fetched needs : ℕ → List ℕ) (owners : List (Option ℕ)) (pieces p : ℕ) → IsClaimedBy own owners pieces → p < pieces → NeedsServe (p + 1) own fetched needs → All (λ c. HasOwnerAmong owners (needs p) c) (fetched p)
needed_at own fetched needs owners pieces p s lt h =
    let below : All (λ n. n < pieces) (needs p) = All-weaker (λ n. n < p) (λ n. n < pieces) (λ n less. omega arith) (needs p) (earlier_at needs (p + 1) p (omega arith) h.0) in
    All-from_get_or (λ c. HasOwnerAmong owners (needs p) c) (fetched p) 0 (λ i less. own_owner own owners (needs p) pieces (get_or (fetched p) i 0) s below (h.1 p (get_or (fetched p) i 0) (omega arith) (Contains-get_or (fetched p) i 0 less)))

-- where the needed pieces are marked, a marked owner is one of them
marked_owner : (owners marks : List (Option ℕ)) (needs : List ℕ) (p cell : ℕ) → AreMarked marks needs p → HasMarkedOwner owners marks p cell → HasOwnerAmong owners needs cell
marked_owner owners marks needs p cell marked h = (h.0, h.1, (marked h.0).0 (get_or_from_slice_get marks h.0 (Some p) None h.2))

owner_marked : (owners marks : List (Option ℕ)) (needs : List ℕ) (p cell : ℕ) → AreMarked marks needs p → HasOwnerAmong owners needs cell → HasMarkedOwner owners marks p cell
owner_marked owners marks needs p cell marked h =
    let at : get_or marks h.0 None ≡ Some p = (marked h.0).1 h.2 in
    let within : h.0 < length marks = elim (cases_lt h.0 (length marks)) [ inl lt ↦ lt | inr past ↦ absurd (none-some p (sym (get_or_past marks h.0 None past) ∙ at)) ] in
    (h.0, h.1, slice_get-get_or marks h.0 None within ∙ ap Some at)

-- one more piece is served
pub served_more : (own fetched needs : ℕ → List ℕ) (owners marks : List (Option ℕ)) (pieces p : ℕ) → IsClaimedBy own owners pieces → NeedsServe p own fetched needs → All (λ n. n < p) (needs p) → AreMarked marks (needs p) p → All (λ c. HasMarkedOwner owners marks p c) (fetched p) → NeedsServe (p + 1) own fetched needs
served_more own fetched needs owners marks pieces p s h earlier marked all = (
  earlier_more needs p h.0 earlier,
  needed_more own fetched needs owners pieces p s h.1 (All-weaker (λ c. HasMarkedOwner owners marks p c) (λ c. HasOwnerAmong owners (needs p) c) (λ c. marked_owner owners marks (needs p) p c marked) (fetched p) all),
)

-- a piece that is served looks only at cells whose owners are marked
pub served_at : (own fetched needs : ℕ → List ℕ) (owners marks : List (Option ℕ)) (pieces p : ℕ) → IsClaimedBy own owners pieces → p < pieces → AreMarked marks (needs p) p → NeedsServe (p + 1) own fetched needs → All (λ c. HasMarkedOwner owners marks p c) (fetched p)
served_at own fetched needs owners marks pieces p s lt marked h =
    All-weaker (λ c. HasOwnerAmong owners (needs p) c) (λ c. HasMarkedOwner owners marks p c) (λ c. owner_marked owners marks (needs p) p c marked) (fetched p) (needed_at own fetched needs owners pieces p s lt h)

-- before the first piece nothing is marked
pub marked_none : (n : ℕ) → IsMarkedBefore (replicate n None) 0
marked_none n m q e =
    let nothing : Option ℕ = None in
    let free : get_or (replicate n nothing) m nothing ≡ nothing = elim (cases_lt m n) [
      | inl lt ↦ get_or-replicate n m nothing nothing lt
      | inr past ↦ get_or_past (replicate n nothing) m nothing (let e : length (replicate n nothing) ≡ n = length-replicate n nothing in omega arith)
    ] in
    absurd (none-some q (sym free ∙ e))

-- a mark from here on is no earlier one
marked_later : (marks : List (Option ℕ)) (p : ℕ) → IsMarkedBefore marks p → IsMarkedBefore marks (p + 1)
marked_later marks p h n q e = let less : q < p = h n q e in omega arith

-- before the first needed piece this piece has marked none
pub mark_start : (marks : List (Option ℕ)) (p : ℕ) → IsMarkedBefore marks p → IsMarkedBefore marks (p + 1) × AreMarked marks [] p
mark_start marks p h = (
  marked_later marks p h,
  (λ n. ((λ e. absurd (let less : p < p = h n p e in omega arith)), (λ has. absurd (let none : has.0 < 0 = has.1 in omega arith)))),
)

-- one more needed piece is marked
pub mark_more : (marks : List (Option ℕ)) (needs : List ℕ) (i p needed : ℕ) → i < length needs → needed ≡ get_or needs i 0 → needed < length marks → IsMarkedBefore marks (p + 1) × AreMarked marks (take i needs) p → IsMarkedBefore (set marks needed (Some p)) (p + 1) × AreMarked (set marks needed (Some p)) (take (i + 1) needs) p
mark_more marks needs i p needed lt is within h =
    let new : List (Option ℕ) = set marks needed (Some p) in
    let same : get_or new needed None ≡ Some p = get_or-set_same marks needed (Some p) None within in
    let other : (n : ℕ) → n ≢ needed → get_or new n None ≡ get_or marks n None = (λ n ne. get_or-set_other marks needed n (Some p) None ne) in
    let longer : take (i + 1) needs ≡ take i needs ++ needed ∷ [] = take_more needs i 0 lt ∙ ap (λ x. take i needs ++ x ∷ []) (sym is) in
    let P : ℕ → List ℕ → Type 0 = λ n xs. Contains xs n in (
      (λ n q e. elim (cases_eq n needed) [
        | inl at ↦ (let owner : p ≡ q = same_Some p q (sym same ∙ ap (λ d. get_or new d None) (sym at) ∙ e) in omega arith)
        | inr ne ↦ h.0 n q (sym (other n ne) ∙ e)
      ]),
      (λ n. (
        (λ e. subst (P n) (sym longer) (elim (cases_eq n needed) [
          | inl at ↦ (let Q : ℕ → Type 0 = λ x. Contains (take i needs ++ needed ∷ []) x in subst Q (sym at) (Contains-push (take i needs) needed))
          | inr ne ↦ Contains-append_left (take i needs) (needed ∷ []) n ((h.1 n).0 (sym (other n ne) ∙ e))
        ])),
        (λ has. elim (cases_eq n needed) [
          | inl at ↦ ap (λ d. get_or new d None) at ∙ same
          | inr ne ↦ other n ne ∙ elim (Contains-push_cases (take i needs) needed n (subst (P n) longer has)) [
            | inl old ↦ (h.1 n).1 old
            | inr e ↦ absurd (ne (sym e))
          ]
        ]),
      )),
    )

pub taken : {A : Type 0} (xs : List A) (n : ℕ) → n ≡ length xs → take n xs ≡ xs
taken xs n e = grind (arith, common_steps)

-- what holds of all that was taken holds of all, at the end
pub all_taken : (P : ℕ → Type 0) (xs : List ℕ) (n : ℕ) → n ≡ length xs → All P (take n xs) → All P xs
all_taken P xs n e h = let Q : List ℕ → Type 0 = λ ys. All P ys in subst Q (taken xs n e) h
