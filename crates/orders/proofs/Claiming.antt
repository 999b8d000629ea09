-- The table of owners, as it is filled.
use Rattle.std.proofs.Common.{◌≡◌, ◌≢◌, ◌⊎◌, ℕ, ◌+◌, ◌<◌, Option, Some, None, List, length, get_or, set, refl, sym, ◌∙◌, ap, subst, inl, inr, arith, replicate}
use Rattle.std.specs.Prelude.{slice_get, Contains, All, IsSome}
use Rattle.std.proofs.lemmas.Grind.{get_or_default_zero}
use Rattle.std.proofs.lemmas.Bool.{cases_eq, cases_lt, false≢true}
use Rattle.std.proofs.lemmas.List.{get_or-set_same, get_or-set_other, get_or_past, get_or-replicate, length-replicate}
use Rattle.std.proofs.lemmas.List.Elements.{Contains-get_or, All-get_or}
use Rattle.std.proofs.lemmas.Option.{none-some, same_Some, slice_get-get_or, slice_get_within, get_or_from_slice_get}
use Rattle.orders.specs.Work.{OwnIsApart, OwnIsWhole, OwnIsParted}
use Rattle.orders.specs.Claimed.{IsBefore, IsClaimed, IsClaimedBy}

-- in an empty table nothing is claimed
pub claimed_none : (own : ℕ → List ℕ) (n : ℕ) → IsClaimed own (replicate n None) 0 0
claimed_none own n =
    let nothing : Option ℕ = None in
    let free : (c : ℕ) → get_or (replicate n nothing) c nothing ≡ nothing = (λ c. elim (cases_lt c n) [
      | inl lt ↦ get_or-replicate n c nothing nothing lt
      | inr past ↦ get_or_past (replicate n nothing) c nothing (let e : length (replicate n nothing) ≡ n = length-replicate n nothing in omega arith)
    ]) in
    let never : (q b : ℕ) → IsBefore q b 0 0 → ⊥ = (λ q b before. elim before [ inl less ↦ omega arith | inr same ↦ (let less : b < 0 = same.1 in omega arith) ]) in
    record {
      each = (λ q b lt before. absurd (never q b before));
      only = (λ c q e. absurd (none-some q (sym (free c) ∙ e)));
      apart = (λ q b r c q_in r_in q_before r_before same. absurd (never q b q_before));
    }

later : (q b p a : ℕ) → IsBefore q b p a → IsBefore q b p (a + 1)
later q b p a before = elim before [ inl less ↦ inl less | inr same ↦ inr (same.0, (let less : b < a = same.1 in omega arith)) ]

-- what comes before the next place comes before this one, or is this one
earlier : (q b p a : ℕ) → IsBefore q b p (a + 1) → IsBefore q b p a ⊎ ((q ≡ p) × (b ≡ a))
earlier q b p a before = elim before [
  | inl less ↦ inl (inl less)
  | inr here ↦ elim (cases_eq b a) [
    | inl e ↦ inr (here.0, e)
    | inr ne ↦ inl (inr (here.0, (let less : b < a + 1 = here.1 in omega arith)))
  ]
]

-- one more place
pub claimed_more : (own : ℕ → List ℕ) (owners : List (Option ℕ)) (p a cell : ℕ) → IsClaimed own owners p a → a < length (own p) → cell ≡ get_or (own p) a 0 → slice_get owners cell ≡ Some None → IsClaimed own (set owners cell (Some p)) p (a + 1)
claimed_more own owners p a cell s lt is free =
    let in_table : cell < length owners = slice_get_within owners cell None free in
    let unset : get_or owners cell None ≡ None = get_or_from_slice_get owners cell None None free in
    let new : List (Option ℕ) = set owners cell (Some p) in
    let same : get_or new cell None ≡ Some p = get_or-set_same owners cell (Some p) None in_table in
    let other : (c : ℕ) → c ≢ cell → get_or new c None ≡ get_or owners c None = (λ c ne. get_or-set_other owners cell c (Some p) None ne) in
    let fresh : (q b : ℕ) → b < length (own q) → IsBefore q b p a → get_or (own q) b 0 ≢ cell =
    (λ q b in_own before e. none-some q (sym unset ∙ ap (λ c. get_or owners c None) (sym e) ∙ s.each q b in_own before)) in
    let at : (q b : ℕ) → (q ≡ p) × (b ≡ a) → get_or (own q) b 0 ≡ cell =
    (λ q b here. ap (λ x. get_or (own x) b 0) here.0 ∙ ap (λ y. get_or (own p) y 0) here.1 ∙ sym is) in
    record {
      each = (λ q b in_own before. elim (earlier q b p a before) [
        | inl old ↦ other _ (fresh q b in_own old) ∙ s.each q b in_own old
        | inr here ↦ ap (λ c. get_or new c None) (at q b here) ∙ same ∙ ap Some (sym here.0)
      ]);
      only = (λ c q e. elim (cases_eq c cell) [
        | inl there ↦ (let owner : p ≡ q = same_Some p q (sym same ∙ ap (λ d. get_or new d None) (sym there) ∙ e) in
            let P : ℕ → Type 0 = λ x. (b : ℕ) × (b < length (own x)) × IsBefore x b p (a + 1) × (get_or (own x) b 0 ≡ c) in
            subst P owner (a, lt, inr (refl, omega arith), sym is ∙ sym there))
        | inr ne ↦ (let known : (b : ℕ) × (b < length (own q)) × IsBefore q b p a × (get_or (own q) b 0 ≡ c) = s.only c q (sym (other c ne) ∙ e) in
            (known.0, known.1, later q known.0 p a known.2, known.3))
      ]);
      apart = (λ q b r c q_in r_in q_before r_before e. elim (earlier q b p a q_before) [
        | inl q_old ↦ elim (earlier r c p a r_before) [
          | inl r_old ↦ s.apart q b r c q_in r_in q_old r_old e
          | inr r_here ↦ absurd (fresh q b q_in q_old (e ∙ at r c r_here))
        ]
        | inr q_here ↦ elim (earlier r c p a r_before) [
          | inl r_old ↦ absurd (fresh r c r_in r_old (sym e ∙ at q b q_here))
          | inr r_here ↦ (q_here.0 ∙ sym r_here.0, q_here.1 ∙ sym r_here.1)
        ]
      ]);
    }

-- after the last place comes the next piece
pub claimed_next : (own : ℕ → List ℕ) (owners : List (Option ℕ)) (p a : ℕ) → IsClaimed own owners p a → a ≡ length (own p) → IsClaimed own owners (p + 1) 0
claimed_next own owners p a s end =
    let back : (q b : ℕ) → b < length (own q) → IsBefore q b (p + 1) 0 → IsBefore q b p a = (λ q b in_own before. elim (cases_eq q p) [
      | inl e ↦ inr (e, (let same : length (own q) ≡ length (own p) = ap (λ x. length (own x)) e in omega arith))
      | inr ne ↦ inl (elim before [ inl less ↦ omega arith | inr same ↦ absurd (let none : b < 0 = same.1 in omega arith) ])
    ]) in
    record {
      each = (λ q b in_own before. s.each q b in_own (back q b in_own before));
      only = (λ c q e.
          let known : (b : ℕ) × (b < length (own q)) × IsBefore q b p a × (get_or (own q) b 0 ≡ c) = s.only c q e in
          (known.0, known.1, inl (elim known.2 [ inl less ↦ omega arith | inr same ↦ (let is : q ≡ p = same.0 in omega arith) ]), known.3));
      apart = (λ q b r c q_in r_in q_before r_before e. s.apart q b r c q_in r_in (back q b q_in q_before) (back r c r_in r_before) e);
    }

-- a cell that is claimed already stands twice
clash_held : (own : ℕ → List ℕ) (owners : List (Option ℕ)) (p a cell : ℕ) (o : Option ℕ) → IsClaimed own owners p a → a < length (own p) → cell ≡ get_or (own p) a 0 → (slice_get owners cell ≡ Some None → ⊥) → OwnIsApart (p + 1) own → slice_get owners cell ≡ Some o → get_or owners cell None ≡ o → ⊥
clash_held own owners p a cell None s lt is taken apart at e = taken at
clash_held own owners p a cell (Some owner) s lt is taken apart at e =
    let known : (b : ℕ) × (b < length (own owner)) × IsBefore owner b p a × (get_or (own owner) b 0 ≡ cell) = s.only cell owner e in
    let owner_in : owner < p + 1 = elim known.2 [ inl less ↦ omega arith | inr same ↦ (let here : owner ≡ p = same.0 in omega arith) ] in
    let both : (owner ≡ p) × (known.0 ≡ a) = apart owner p known.0 a owner_in (omega arith) known.1 lt (known.3 ∙ is) in
    elim known.2 [ inl less ↦ (let here : owner ≡ p = both.0 in omega arith) | inr same ↦ (let there : known.0 ≡ a = both.1 in let less : known.0 < a = same.1 in omega arith) ]

-- a cell that is not free shows that own cells leave the table or stand twice
pub claimed_clash : (own : ℕ → List ℕ) (owners : List (Option ℕ)) (p a cell : ℕ) → IsClaimed own owners p a → a < length (own p) → cell ≡ get_or (own p) a 0 → (slice_get owners cell ≡ Some None → ⊥) → OwnIsParted (p + 1) (length owners) own → ⊥
claimed_clash own owners p a cell s lt is taken parted =
    let within : cell < length owners = (let own_in : get_or (own p) a 0 < length owners = parted.0 p (get_or (own p) a 0) (omega arith) (Contains-get_or (own p) a 0 lt) in omega arith) in
    clash_held own owners p a cell (get_or owners cell None) s lt is taken parted.1 (slice_get-get_or owners cell None within) refl

pub place_of : (xs : List ℕ) (x : ℕ) → Contains xs x → (k : ℕ) × (k < length xs) × (get_or xs k 0 ≡ x)
place_of xs x h = (h.0, h.1, sym (get_or_default_zero xs h.0 x h.1) ∙ h.2)

-- what a table of owners says of the own lists
pub claimed_parted : (own : ℕ → List ℕ) (owners : List (Option ℕ)) (pieces cells : ℕ) → IsClaimedBy own owners pieces → length owners ≡ cells → OwnIsParted pieces cells own
claimed_parted own owners pieces cells s long = (
  (λ p cell lt has.
      let place : (a : ℕ) × (a < length (own p)) × (get_or (own p) a 0 ≡ cell) = place_of (own p) cell has in
      let at : get_or owners cell None ≡ Some p = sym (ap (λ c. get_or owners c None) place.2) ∙ s.each p place.0 place.1 (inl lt) in
      elim (cases_lt cell (length owners)) [ inl less ↦ omega arith | inr past ↦ absurd (none-some p (sym (get_or_past owners cell None past) ∙ at)) ]),
  (λ p q a b p_in q_in a_in b_in same. s.apart p a q b a_in b_in (inl p_in) (inl q_in) same),
)

owned : (own : ℕ → List ℕ) (owners : List (Option ℕ)) (pieces cell : ℕ) (o : Option ℕ) → IsClaimedBy own owners pieces → get_or owners cell None ≡ o → IsSome o → (piece : ℕ) × (piece < pieces) × Contains (own piece) cell
owned own owners pieces cell None s e some = absurd (false≢true some)
owned own owners pieces cell (Some owner) s e some =
    let known : (b : ℕ) × (b < length (own owner)) × IsBefore owner b pieces 0 × (get_or (own owner) b 0 ≡ cell) = s.only cell owner e in
    let P : ℕ → Type 0 = λ c. Contains (own owner) c in
    (owner, elim known.2 [ inl less ↦ less | inr same ↦ absurd (let none : known.0 < 0 = same.1 in omega arith) ], subst P known.3 (Contains-get_or (own owner) known.0 0 known.1))

-- where each of the first cells has an owner, each is some piece's own
pub claimed_whole : (own : ℕ → List ℕ) (owners : List (Option ℕ)) (pieces cells : ℕ) → IsClaimedBy own owners pieces → ((c : ℕ) → c < cells → IsSome (get_or owners c None)) → OwnIsWhole pieces cells own
claimed_whole own owners pieces cells s each cell lt = owned own owners pieces cell (get_or owners cell None) s refl (each cell lt)

pub claimed_all : (own : ℕ → List ℕ) (owners : List (Option ℕ)) (pieces cells : ℕ) → IsClaimedBy own owners pieces → length owners ≡ cells → All (λ o. IsSome o) owners → OwnIsWhole pieces cells own
claimed_all own owners pieces cells s long all = claimed_whole own owners pieces cells s (λ c lt. All-get_or (λ o. IsSome o) owners c None (omega arith) all)

-- a cell without an owner is no piece's own
pub unowned : (own : ℕ → List ℕ) (owners : List (Option ℕ)) (pieces cell piece : ℕ) → IsClaimedBy own owners pieces → slice_get owners cell ≡ Some None → piece < pieces → Contains (own piece) cell → ⊥
unowned own owners pieces cell piece s free lt has =
    let place : (a : ℕ) × (a < length (own piece)) × (get_or (own piece) a 0 ≡ cell) = place_of (own piece) cell has in
    none-some piece (sym (get_or_from_slice_get owners cell None None free) ∙ sym (ap (λ c. get_or owners c None) place.2) ∙ s.each piece place.0 place.1 (inl lt))
