-- The shares of the plan of two groups, and what is wrong where its certificate is altered.
use Rattle.std.proofs.Common.{◌≡◌, ℕ, zero, suc, ◌+◌, ◌-◌, ◌<◌, ◌≤◌, ◌^◌, min, List, [], ◌∷◌, length, Some, None, false, refl, sym, ap, ◌∙◌, subst, inl, inr, arith}
use Rattle.std.specs.Prelude.{ℤ, pos, IsTrue, Contains, slice_index}
use Rattle.std.proofs.lemmas.List.Elements.{All-from_recursion}
use Rattle.plan.specs.Lines.{certificate_line}
use Rattle.plan.specs.Plan.{Plan}
use Rattle.plan.specs.Certificate.Certificate.{Certificate}
use Rattle.plan.specs.Certificate.Cells.{Cell, Piece, cell, cells, pieces}
use Rattle.orders.specs.Work.{HasSoundLists, OwnIsInTable, OwnIsApart, OwnIsWhole, NeedsIsEarlier, FetchedIsNeeded}
use Rattle.headline.specs.Numbers.{is_cell, has_point}
use Rattle.headline.proofs.Members.{in_of}
use Rattle.soundness.specs.Outline.Refusals.Codes.{is_before, number_of}
use Rattle.soundness.specs.declared.outline.refusals.code.Flaw.{Flaw}
use Rattle.soundness.specs.declared.outline.refusals.code.K.{K}
use Rattle.soundness.specs.declared.outline.refusals.code.K.TheVariants.{K1, K2, K3, K4, K5, K6, K7, K8, K9, K10, K11, K12, K13, K14}
use Rattle.shares.specs.declared.answer.SharesError.TheVariants.{Flaw as Told}
use Rattle.shares.specs.Faults.{IsApart}
use Rattle.shares.specs.Has.{HasShares, AreFew, IsServed, NeedsPieces, fetched_before, needed_before}
use Rattle.shares.specs.Layout.{OwnIsInside, FetchesCells, fetched_list, needs_list, own_list}
use Rattle.shares.specs.Made.{ErrorMeans, HasGap, IsFirstOwn, IsUnserved, OwnCode, Overlaps, need_place, owns_line}
use Rattle.plan.specs.declared.certificate.cert.Need.{Need}
use Rattle.shares.specs.Boxes.{is_in_box}
use Rattle.shares.specs.Needed.{NeedIsInside, need_grid}
use Rattle.shares.specs.Worked.{both, f_group, out_group, pair_plan, pair_certificate, twice_owned, not_owned, less_needed, SharesAreWorked}
use Rattle.shares.proofs.Firsts.{not_before, from_nine}
use Rattle.shares.proofs.Having.{cells_within}
use Rattle.shares.proofs.Near.{plain_near}
use Rattle.shares.proofs.Owning.{piece_below}

-- ---- the lists

abbrev own : ℕ → List ℕ
own = own_list pair_plan pair_certificate

abbrev fetches : ℕ → List ℕ
fetches = fetched_list pair_plan

abbrev needs : ℕ → List ℕ
needs = needs_list pair_plan pair_certificate

-- the owner of each cell, and its place there
abbrev owner : ℕ → ℕ
owner zero = 0
owner (suc zero) = 1
owner (suc (suc c)) = 2

abbrev place_at : ℕ → ℕ
place_at zero = 0
place_at (suc zero) = 0
place_at (suc (suc c)) = c

owned : (p i : ℕ) → p < 3 → i < length (own p) → (owner (slice_index (own p) i) ≡ p) × (place_at (slice_index (own p) i) ≡ i)
owned zero zero l m = (refl, refl)
owned zero (suc i) l m = absurd (omega (arith, m))
owned (suc zero) zero l m = (refl, refl)
owned (suc zero) (suc i) l m = absurd (omega (arith, m))
owned (suc (suc zero)) zero l m = (refl, refl)
owned (suc (suc zero)) (suc zero) l m = (refl, refl)
owned (suc (suc zero)) (suc (suc i)) l m = absurd (omega (arith, m))
owned (suc (suc (suc p))) i l m = absurd (omega (arith, l))

apart : OwnIsApart 3 own
apart p q i j lp lq li lj e =
    let a = owned p i lp li in
    let b = owned q j lq lj in
    (sym a.0 ∙ ap owner e ∙ b.0, sym a.1 ∙ ap place_at e ∙ b.1)

in_table : OwnIsInTable 3 4 own
in_table zero c l m = elim (in_of (0 ∷ []) c m) [ inl e ↦ omega (arith, e) | inr none ↦ absurd none ]
in_table (suc zero) c l m = elim (in_of (1 ∷ []) c m) [ inl e ↦ omega (arith, e) | inr none ↦ absurd none ]
in_table (suc (suc zero)) c l m = elim (in_of (2 ∷ 3 ∷ []) c m) [ inl e ↦ omega (arith, e) | inr n ↦ elim n [ inl e ↦ omega (arith, e) | inr none ↦ absurd none ] ]
in_table (suc (suc (suc p))) c l m = absurd (omega (arith, l))

whole : OwnIsWhole 3 4 own
whole zero l = (0, omega arith, (0, omega arith, refl))
whole (suc zero) l = (1, omega arith, (0, omega arith, refl))
whole (suc (suc zero)) l = (2, omega arith, (0, omega arith, refl))
whole (suc (suc (suc zero))) l = (2, omega arith, (1, omega arith, refl))
whole (suc (suc (suc (suc c)))) l = absurd (omega (arith, l))

earlier : NeedsIsEarlier 3 needs
earlier zero i l m = absurd (in_of [] i m)
earlier (suc zero) i l m = absurd (in_of [] i m)
earlier (suc (suc zero)) i l m = elim (in_of (0 ∷ 1 ∷ []) i m) [ inl e ↦ omega (arith, e) | inr n ↦ elim n [ inl e ↦ omega (arith, e) | inr none ↦ absurd none ] ]
earlier (suc (suc (suc p))) i l m = absurd (omega (arith, l))

needed : FetchedIsNeeded 3 own fetches needs
needed zero c l m = absurd (in_of [] c m)
needed (suc zero) c l m = absurd (in_of [] c m)
needed (suc (suc zero)) c l m = elim (in_of (0 ∷ 1 ∷ []) c m) [
  | inl e ↦ (0, (0, omega arith, refl), (0, omega arith, sym e))
  | inr n ↦ elim n [ inl e ↦ (1, (1, omega arith, refl), (0, omega arith, sym e)) | inr none ↦ absurd none ]
]
needed (suc (suc (suc p))) c l m = absurd (omega (arith, l))

lists : HasSoundLists 3 4 own fetches needs
lists = record { in_table = in_table; apart = apart; whole = whole; earlier = earlier; needed = needed }

-- ---- the shares

inside : (n : ℕ) → OwnIsInside pair_plan pair_certificate n
inside zero = All-from_recursion (λ (q : List ℤ). IsTrue (has_point (Some f_group) q)) ((pos 0 ∷ []) ∷ []) (refl, tt)
inside (suc zero) = All-from_recursion (λ (q : List ℤ). IsTrue (has_point (Some f_group) q)) ((pos 1 ∷ []) ∷ []) (refl, tt)
inside (suc (suc zero)) = All-from_recursion (λ (q : List ℤ). IsTrue (has_point (Some out_group) q)) ((pos 0 ∷ []) ∷ (pos 1 ∷ []) ∷ []) (refl, (refl, tt))
inside (suc (suc (suc n))) = tt

fetched : (n : ℕ) → FetchesCells pair_plan n
fetched zero = All-from_recursion (λ (x : Cell). IsTrue (is_cell pair_plan x)) [] tt
fetched (suc zero) = All-from_recursion (λ (x : Cell). IsTrue (is_cell pair_plan x)) [] tt
fetched (suc (suc zero)) = All-from_recursion (λ (x : Cell). IsTrue (is_cell pair_plan x)) (cell 0 (pos 0 ∷ []) ∷ cell 0 (pos 1 ∷ []) ∷ []) (refl, (refl, tt))
fetched (suc (suc (suc n))) = tt

abbrev f_piece : ℕ → Piece
f_piece k = record { group = 0; at = k ∷ [] }

abbrev out_piece : Piece
out_piece = record { group = 1; at = 0 ∷ [] }

abbrev need : Need
need = record { group = 1; needed = 0; region = both ∷ [] }

named : (n : ℕ) → NeedsPieces pair_plan pair_certificate n
named zero = All-from_recursion (NeedIsInside pair_plan (f_piece 0)) pair_certificate.needs ((λ e. absurd (omega (arith, e))), tt)
named (suc zero) = All-from_recursion (NeedIsInside pair_plan (f_piece 1)) pair_certificate.needs ((λ e. absurd (omega (arith, e))), tt)
named (suc (suc zero)) = All-from_recursion (NeedIsInside pair_plan out_piece) pair_certificate.needs ((λ e. All-from_recursion (λ (q : List ℤ). IsTrue (is_in_box (need_grid pair_plan need) q)) ((pos 0 ∷ []) ∷ (pos 1 ∷ []) ∷ []) (refl, (refl, tt))), tt)
named (suc (suc (suc n))) = tt

few : AreFew pair_plan pair_certificate
few =
    let one : fetched_before pair_plan (length (pieces pair_plan)) ≡ 2 = refl in
    let two : needed_before pair_plan pair_certificate (length (pieces pair_plan)) ≡ 2 = refl in
    record { fetched = omega (arith, one); needed = omega (arith, two) }

shares : HasShares pair_plan pair_certificate
shares = record { near = plain_near pair_plan refl; inside = inside; cells = fetched; pieces = named; lists = λ a samples. lists; few = few }

-- ---- a cell owned twice

abbrev nine : Flaw
nine = record { code = K9; line = 19 }

begun : (p : Plan) (c : Certificate) (n : ℕ) (line : ℕ) → certificate_line p ≡ 18 → line ≡ min (owns_line p c n) (2 ^ 32 - 1) → 19 ≤ line
begun p c n line e is = omega (arith, e, is)

twice_first : IsFirstOwn pair_plan twice_owned 2 nine
twice_first g own = not_before g nine (begun pair_plan twice_owned own.0 g.line refl own.3) (λ e. from_nine pair_plan twice_owned own.0 g.code own.2)

overlaps : Overlaps pair_plan twice_owned 0
overlaps = (
  0,
  refl,
  λ apart.
      let zero_long : length (own_list pair_plan twice_owned 0) ≡ 1 = refl in
      let one_long : length (own_list pair_plan twice_owned 1) ≡ 2 = refl in
      let same : 0 ≡ 1 = (apart 1 0 0 (omega arith) (omega (arith, zero_long)) (omega (arith, one_long)) refl).0 in
      omega (arith, same),
)

twice : ErrorMeans pair_plan twice_owned (Told nine)
twice = inl (inl (0, overlaps, refl), twice_first)

-- ---- a cell without an owner

abbrev ten : Flaw
ten = record { code = K10; line = 19 }

gap_none : (k : ℕ) → k < 3 → ¬ Contains (own_list pair_plan not_owned k) 1
gap_none zero less has = elim (in_of (0 ∷ []) 1 has) [ inl e ↦ omega (arith, e) | inr none ↦ absurd none ]
gap_none (suc zero) less has = absurd (in_of [] 1 has)
gap_none (suc (suc zero)) less has = elim (in_of (2 ∷ 3 ∷ []) 1 has) [ inl e ↦ omega (arith, e) | inr n ↦ elim n [ inl e ↦ omega (arith, e) | inr none ↦ absurd none ] ]
gap_none (suc (suc (suc k))) less has = omega (arith, less)

first_apart : IsApart pair_plan not_owned 0
first_apart zero zero zero less a_in b_in same = (refl, refl)
first_apart zero zero (suc b) less a_in b_in same = absurd (let one : length (own_list pair_plan not_owned 0) ≡ 1 = refl in omega (arith, one, b_in))
first_apart zero (suc a) b less a_in b_in same = absurd (let one : length (own_list pair_plan not_owned 0) ≡ 1 = refl in omega (arith, one, a_in))
first_apart (suc zero) a b less a_in b_in same = absurd (let none : length (own_list pair_plan not_owned 1) ≡ 0 = refl in omega (arith, none, b_in))
first_apart (suc (suc zero)) zero zero less a_in b_in same = absurd (let e : 0 ≡ 2 = same in omega (arith, e))
first_apart (suc (suc zero)) zero (suc zero) less a_in b_in same = absurd (let e : 0 ≡ 3 = same in omega (arith, e))
first_apart (suc (suc zero)) zero (suc (suc b)) less a_in b_in same = absurd (let long : length (own_list pair_plan not_owned 2) ≡ 2 = refl in omega (arith, long, b_in))
first_apart (suc (suc zero)) (suc a) b less a_in b_in same = absurd (let one : length (own_list pair_plan not_owned 0) ≡ 1 = refl in omega (arith, one, a_in))
first_apart (suc (suc (suc j))) a b less a_in b_in same = absurd (omega (arith, less))

none_overlaps : ¬ Overlaps pair_plan not_owned 0
none_overlaps (zero, is, not) = not first_apart
none_overlaps (suc zero, is, not) = not (λ j a b less a_in b_in same. absurd (let none : length (own_list pair_plan not_owned 1) ≡ 0 = refl in omega (arith, none, a_in)))
none_overlaps (suc (suc zero), is, not) = let e : 1 ≡ 0 = is in omega (arith, e)
none_overlaps (suc (suc (suc i)), is, not) = absurd is

from_ten : (n : ℕ) (k : K) → n ≡ 0 → OwnCode pair_plan not_owned n k → 10 ≤ number_of k
from_ten n K9 e h = absurd (none_overlaps (subst (Overlaps pair_plan not_owned) e h))
from_ten n K10 e h = omega arith
from_ten n K11 e h = omega arith
from_ten n K1 e h = absurd h
from_ten n K2 e h = absurd h
from_ten n K3 e h = absurd h
from_ten n K4 e h = absurd h
from_ten n K5 e h = absurd h
from_ten n K6 e h = absurd h
from_ten n K7 e h = absurd h
from_ten n K8 e h = absurd h
from_ten n K12 e h = absurd h
from_ten n K13 e h = absurd h
from_ten n K14 e h = absurd h

gap_first : (g : Flaw) (n : ℕ) → n < 2 → OwnCode pair_plan not_owned n g.code → g.line ≡ min (owns_line pair_plan not_owned n) (2 ^ 32 - 1) → is_before g ten ≡ false
gap_first g zero less code line = not_before g ten (begun pair_plan not_owned 0 g.line refl line) (λ e. from_ten 0 g.code refl code)
gap_first g (suc zero) less code line = let at : g.line ≡ 20 = line in not_before g ten (omega (arith, at)) (λ e. absurd (omega (arith, at, e)))
gap_first g (suc (suc n)) less code line = absurd (omega (arith, less))

gap : ErrorMeans pair_plan not_owned (Told ten)
gap = inl (inl (0, inr (1, omega arith, omega arith, gap_none), refl), λ g own. gap_first g own.0 own.1 own.2 own.3)

-- ---- a fetched cell that no needed piece owns

abbrev eleven : Flaw
eleven = record { code = K11; line = 21 }

unserved_out : IsUnserved pair_plan less_needed 1
unserved_out = (
  2,
  refl,
  λ served.
      let found = served.owned 1 (1, omega arith, refl) in
      elim (in_of (0 ∷ []) found.0 found.1) [
        | inl e ↦ (let own : Contains (0 ∷ []) 1 = subst (λ (k : ℕ). Contains (own_list pair_plan less_needed k) 1) e found.2 in elim (in_of (0 ∷ []) 1 own) [ inl f ↦ omega (arith, f) | inr none ↦ absurd none ])
        | inr none ↦ absurd none
      ],
)

alone_served : (k : ℕ) → k < 2 → IsServed pair_plan less_needed k
alone_served zero less = record {
  cells = fetched 0;
  pieces = All-from_recursion (NeedIsInside pair_plan (f_piece 0)) less_needed.needs ((λ e. absurd (omega (arith, e))), tt);
  earlier = λ i m. absurd (in_of [] i m);
  owned = λ x m. absurd (in_of [] x m);
}
alone_served (suc zero) less = record {
  cells = fetched 1;
  pieces = All-from_recursion (NeedIsInside pair_plan (f_piece 1)) less_needed.needs ((λ e. absurd (omega (arith, e))), tt);
  earlier = λ i m. absurd (in_of [] i m);
  owned = λ x m. absurd (in_of [] x m);
}
alone_served (suc (suc k)) less = absurd (omega (arith, less))

none_alone : (n : ℕ) → need_place less_needed.needs n ≡ None → n < 2 → ¬ IsUnserved pair_plan less_needed n
none_alone zero alone less (zero, is, not) = not (alone_served 0 (omega arith))
none_alone zero alone less (suc zero, is, not) = not (alone_served 1 (omega arith))
none_alone zero alone less (suc (suc zero), is, not) = let e : 1 ≡ 0 = is in omega (arith, e)
none_alone zero alone less (suc (suc (suc i)), is, not) = absurd is
none_alone (suc zero) alone less h = absurd (cc alone)
none_alone (suc (suc n)) alone less h = omega (arith, less)

-- what is owned is as before
same_at : (k : ℕ) → own_list pair_plan less_needed k ≡ own k
same_at zero = refl
same_at (suc zero) = refl
same_at (suc (suc zero)) = refl
same_at (suc (suc (suc k))) = refl

less_inside : (n : ℕ) → OwnIsInside pair_plan less_needed n
less_inside zero = All-from_recursion (λ (q : List ℤ). IsTrue (has_point (Some f_group) q)) ((pos 0 ∷ []) ∷ []) (refl, tt)
less_inside (suc zero) = All-from_recursion (λ (q : List ℤ). IsTrue (has_point (Some f_group) q)) ((pos 1 ∷ []) ∷ []) (refl, tt)
less_inside (suc (suc zero)) = All-from_recursion (λ (q : List ℤ). IsTrue (has_point (Some out_group) q)) ((pos 0 ∷ []) ∷ (pos 1 ∷ []) ∷ []) (refl, (refl, tt))
less_inside (suc (suc (suc n))) = tt

less_apart : (i : ℕ) → i < 3 → IsApart pair_plan less_needed i
less_apart i within j a b less a_in b_in e =
    apart i j a b within less (subst (λ (xs : List ℕ). a < length xs) (same_at i) a_in) (subst (λ (xs : List ℕ). b < length xs) (same_at j) b_in)
    (ap (λ (xs : List ℕ). slice_index xs a) (sym (same_at i)) ∙ e ∙ ap (λ (xs : List ℕ). slice_index xs b) (same_at j))

less_whole : (n : ℕ) → ¬ HasGap pair_plan less_needed n
less_whole n gap =
    let most = cells_within 0 pair_plan.groups (n + 1) in
    let four : length (cells pair_plan) ≡ 4 = refl in
    let high = gap.2 in
    let owner = whole gap.0 (omega (arith, most, four, high)) in
    gap.3 owner.0 owner.1 (subst (λ (xs : List ℕ). Contains xs gap.0) (sym (same_at owner.0)) owner.2)

no_own : (n : ℕ) (k : K) → n < 2 → OwnCode pair_plan less_needed n k → ⊥
no_own n K9 less h = h.2 (less_apart h.0 (piece_below pair_plan n h.0 h.1))
no_own n K10 less h = elim h [ inl leaves ↦ leaves.2 (less_inside leaves.0) | inr gap ↦ less_whole n gap ]
no_own n K11 less h = none_alone n h.0 less h.1
no_own n K1 less h = h
no_own n K2 less h = h
no_own n K3 less h = h
no_own n K4 less h = h
no_own n K5 less h = h
no_own n K6 less h = h
no_own n K7 less h = h
no_own n K8 less h = h
no_own n K12 less h = h
no_own n K13 less h = h
no_own n K14 less h = h

unserved : ErrorMeans pair_plan less_needed (Told eleven)
unserved = inl (inl (1, unserved_out, refl), λ g own. absurd (no_own own.0 g.code own.1 own.2))

pub shares_worked : SharesAreWorked
shares_worked = record { has = shares; twice = twice; gap = gap; unserved = unserved }
