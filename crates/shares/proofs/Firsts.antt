-- The first of the flaws at own lines.
use Rattle.std.proofs.Common.{◌≡◌, ℕ, suc, ◌+◌, ◌-◌, ◌^◌, ◌<◌, ◌≤◌, List, length, min, Bool, true, false, cond, arith, ap, refl, sym, ◌∙◌, subst, Option, Some, None, inl, inr}
use Rattle.std.specs.Prelude.{◌==◌, ◌&&◌, ◌||◌, nat_lt, ◌⊎◌, MatchOption}
use Rattle.std.proofs.lemmas.Bool.{cases_lt, false≢true}
use Rattle.std.proofs.lemmas.Bool.Decides.{nat_tests}
use Rattle.plan.specs.Plan.{Plan}
use Rattle.plan.specs.Certificate.Certificate.{Certificate}
use Rattle.soundness.specs.Outline.Refusals.Codes.{is_before, least, lesser, number_of}
use Rattle.soundness.specs.declared.outline.refusals.code.Flaw.{Flaw}
use Rattle.soundness.specs.declared.outline.refusals.code.K.{K}
use Rattle.soundness.specs.declared.outline.refusals.code.K.TheVariants.{K1, K2, K3, K4, K5, K6, K7, K8, K9, K10, K11, K12, K13, K14}
use Rattle.soundness.proofs.Refines.{and_parts}
use Rattle.shares.specs.Made.{OwnCode, IsOwnFlaw, owns_line}
use Rattle.shares.specs.Owned.{IsLowestCode, IsFirstFlaw}

-- ---- which is before

abbrev Earlier : ℕ → ℕ → ℕ → ℕ → Type 0
Earlier l k m j = (l < m) ⊎ ((l ≡ m) × (k < j))

abbrev test : ℕ → ℕ → ℕ → ℕ → Bool
test l k m j = nat_lt l m || ((l == m) && nat_lt k j)

true_less : (a b : ℕ) → nat_lt a b ≡ true → a < b
true_less a b e = grind (arith, nat_tests)

less_true : (a b : ℕ) → a < b → nat_lt a b ≡ true
less_true a b h = grind (arith, nat_tests)

true_same : (a b : ℕ) → (a == b) ≡ true → a ≡ b
true_same a b e = grind (arith, nat_tests)

same_true : (a b : ℕ) → a ≡ b → (a == b) ≡ true
same_true a b e = grind (arith, nat_tests)

or_parts : (a b : Bool) → (a || b) ≡ true → (a ≡ true) ⊎ (b ≡ true)
or_parts true b e = inl refl
or_parts false b e = inr e

or_one : (a b : Bool) → a ≡ true → (a || b) ≡ true
or_one a b e = rw e refl

or_two : (a b : Bool) → b ≡ true → (a || b) ≡ true
or_two true b e = refl
or_two false b e = e

and_both : (a b : Bool) → a ≡ true → b ≡ true → (a && b) ≡ true
and_both a b e f = rw (e, f) refl

pub test_means : (l k m j : ℕ) → test l k m j ≡ true → Earlier l k m j
test_means l k m j e = elim (or_parts (nat_lt l m) ((l == m) && nat_lt k j) e) [
  | inl less ↦ inl (true_less l m less)
  | inr both ↦ (let parts = and_parts (l == m) (nat_lt k j) both in inr (true_same l m parts.0, true_less k j parts.1))
]

test_is : (l k m j : ℕ) → Earlier l k m j → test l k m j ≡ true
test_is l k m j h = elim h [
  | inl less ↦ or_one (nat_lt l m) ((l == m) && nat_lt k j) (less_true l m less)
  | inr both ↦ or_two (nat_lt l m) ((l == m) && nat_lt k j) (and_both (l == m) (nat_lt k j) (same_true l m both.0) (less_true k j both.1))
]

pub not_true : (b : Bool) → (b ≡ true → ⊥) → b ≡ false
not_true true h = absurd (h refl)
not_true false h = refl

earlier_on : (l k m j n i : ℕ) → Earlier l k m j → Earlier m j n i → Earlier l k n i
earlier_on l k m j n i a b = elim a [
  | inl less ↦ elim b [ inl more ↦ inl (omega (arith, less, more)) | inr same ↦ (let e = same.0 in inl (omega (arith, less, e))) ]
  | inr same ↦ elim b [
    | inl more ↦ (let e = same.0 in inl (omega (arith, e, more)))
    | inr again ↦ (let e = same.0 in let f = again.0 in let g = same.1 in let h = again.1 in inr (omega (arith, e, f), omega (arith, g, h)))
  ]
]

module _ (f g h : Flaw) where
  -- what is not before a flaw is not before one that is before it
  before_on : is_before g f ≡ true → is_before h f ≡ false → is_before h g ≡ false
  before_on first not = not_true (is_before h g) (λ e. false≢true (sym not ∙ test_is h.line (number_of h.code) f.line (number_of f.code)
      (earlier_on h.line (number_of h.code) g.line (number_of g.code) f.line (number_of f.code) (test_means h.line (number_of h.code) g.line (number_of g.code) e) (test_means g.line (number_of g.code) f.line (number_of f.code) first))))

  -- a flaw at the line of another, with no lower code, is not before it, nor before what that one is not before
  not_lower : h.line ≡ g.line → number_of g.code ≤ number_of h.code → is_before h g ≡ false
  not_lower same least = not_true (is_before h g) (λ e. elim (test_means h.line (number_of h.code) g.line (number_of g.code) e) [
    | inl less ↦ omega (arith, same, less)
    | inr both ↦ (let low = both.1 in omega (arith, least, low))
  ])

  not_lower_than : h.line ≡ g.line → number_of g.code ≤ number_of h.code → is_before g f ≡ false → is_before h f ≡ false
  not_lower_than same least not = not_true (is_before h f) (λ e. false≢true (sym not ∙ test_is g.line (number_of g.code) f.line (number_of f.code) (elim (test_means h.line (number_of h.code) f.line (number_of f.code) e) [
    | inl less ↦ inl (omega (arith, same, less))
    | inr both ↦ (let e = both.0 in let low = both.1 in inr (omega (arith, same, e), omega (arith, least, low)))
  ])))

pub first_of_two : (f g h : Flaw) → is_before h f ≡ false → is_before h g ≡ false → is_before h (lesser f g) ≡ false
first_of_two f g h one two = of (is_before g f)
  where
    of : (b : Bool) → is_before h (cond b g f) ≡ false
    of true = two
    of false = one

module _ (p : Plan) (c : Certificate) (n : ℕ) where
  wider : (f : Flaw) → IsOwnFlaw p c n f → IsOwnFlaw p c (n + 1) f
  wider f h = (h.0, (let less = h.1 in omega (arith, less)), h.2, h.3)

  split : (f : Flaw) → IsOwnFlaw p c (n + 1) f → IsOwnFlaw p c n f ⊎ (OwnCode p c n f.code × (f.line ≡ min (owns_line p c n) (2 ^ 32 - 1)))
  split f h = elim (cases_lt h.0 n) [
    | inl low ↦ inl (h.0, low, h.2, h.3)
    | inr from ↦
        let same : h.0 ≡ n = (let less = h.1 in omega (arith, less, from)) in
        inr (subst (λ (m : ℕ). OwnCode p c m f.code) same h.2, h.3 ∙ ap (λ (m : ℕ). min (owns_line p c m) (2 ^ 32 - 1)) same)
  ]

  module _ (k : K) (line : ℕ) (stands : line ≡ min (owns_line p c n) (2 ^ 32 - 1)) (code : OwnCode p c n k) (low : (h : K) → OwnCode p c n h → number_of k ≤ number_of h) where
    abbrev this : Flaw
    this = record { code = k; line = line }

    own_this : IsOwnFlaw p c (n + 1) this
    own_this = (n, omega arith, code, stands)

    alone : ((f : Flaw) → ¬ IsOwnFlaw p c n f) → (h : Flaw) → IsOwnFlaw p c (n + 1) h → is_before h this ≡ false
    alone none h own = elim (split h own) [
      | inl old ↦ absurd (none h old)
      | inr new ↦ not_lower this this h (new.1 ∙ sym stands) (low h.code new.0)
    ]

    beside : (f : Flaw) → ((h : Flaw) → IsOwnFlaw p c n h → is_before h f ≡ false) → (b : Bool) → is_before this f ≡ b → (h : Flaw) → IsOwnFlaw p c (n + 1) h → is_before h (cond b this f) ≡ false
    beside f first true e h own = elim (split h own) [
      | inl old ↦ before_on f this h e (first h old)
      | inr new ↦ not_lower f this h (new.1 ∙ sym stands) (low h.code new.0)
    ]
    beside f first false e h own = elim (split h own) [
      | inl old ↦ first h old
      | inr new ↦ not_lower_than f this h (new.1 ∙ sym stands) (low h.code new.0) e
    ]

    either : (f : Flaw) → IsOwnFlaw p c n f → (b : Bool) → IsOwnFlaw p c (n + 1) (cond b this f)
    either f own true = own_this
    either f own false = wider f own

    with_this : (found : Option Flaw) → IsFirstFlaw p c n found → IsFirstFlaw p c (n + 1) (least found (Some this))
    with_this None none = (own_this, alone none)
    with_this (Some f) first = (either f first.0 (is_before this f), beside f first.1 (is_before this f) refl)

  without : (found : Option Flaw) → IsFirstFlaw p c n found → ((k : K) → ¬ OwnCode p c n k) → IsFirstFlaw p c (n + 1) (least found None)
  without None none clear = λ f own. elim (split f own) [ inl old ↦ none f old | inr new ↦ clear f.code new.0 ]
  without (Some f) first clear = (wider f first.0, λ h own. elim (split h own) [ inl old ↦ first.1 h old | inr new ↦ absurd (clear h.code new.0) ])

  -- with one more group's own line the first is the lesser of what is found and what is wrong there
  pub first_more : (found told : Option Flaw) (code : Option K) → IsFirstFlaw p c n found → IsLowestCode p c n code →
      MatchOption code (told ≡ None) (λ k. (line : ℕ) × (told ≡ Some (record { code = k; line = line })) × (line ≡ min (owns_line p c n) (2 ^ 32 - 1))) → IsFirstFlaw p c (n + 1) (least found told)
  first_more found told None first lowest is = subst (λ (t : Option Flaw). IsFirstFlaw p c (n + 1) (least found t)) (sym is) (without found first lowest)
  first_more found told (Some k) first lowest is =
      subst (λ (t : Option Flaw). IsFirstFlaw p c (n + 1) (least found t)) (sym is.1) (with_this k is.0 is.2 lowest.0 lowest.1 found first)

-- a flaw at the same line or a later one, and at the same line with no lower code, is not before another
pub not_before : (g f : Flaw) → f.line ≤ g.line → (g.line ≡ f.line → number_of f.code ≤ number_of g.code) → is_before g f ≡ false
not_before g f from low = not_true (is_before g f) (λ e. elim (test_means g.line (number_of g.code) f.line (number_of f.code) e) [
  | inl less ↦ omega (arith, less, from)
  | inr both ↦ (let k = low both.0 in let h = both.1 in omega (arith, k, h))
])

-- codes at own lines are 9 or more
pub from_nine : (p : Plan) (c : Certificate) (n : ℕ) (k : K) → OwnCode p c n k → 9 ≤ number_of k
from_nine p c n K1 h = absurd h
from_nine p c n K2 h = absurd h
from_nine p c n K3 h = absurd h
from_nine p c n K4 h = absurd h
from_nine p c n K5 h = absurd h
from_nine p c n K6 h = absurd h
from_nine p c n K7 h = absurd h
from_nine p c n K8 h = absurd h
from_nine p c n K9 h = omega arith
from_nine p c n K10 h = omega arith
from_nine p c n K11 h = omega arith
from_nine p c n K12 h = absurd h
from_nine p c n K13 h = absurd h
from_nine p c n K14 h = absurd h

-- what is not before one flaw is not before another that this one is not before
pub not_on : (f g h : Flaw) → is_before g f ≡ false → is_before h g ≡ false → is_before h f ≡ false
not_on f g h one two = not_true (is_before h f) (λ e.
    let far = test_means h.line (number_of h.code) f.line (number_of f.code) e in
    let not_g : Earlier h.line (number_of h.code) g.line (number_of g.code) → ⊥ = λ k. false≢true (sym two ∙ test_is h.line (number_of h.code) g.line (number_of g.code) k) in
    let not_f : Earlier g.line (number_of g.code) f.line (number_of f.code) → ⊥ = λ k. false≢true (sym one ∙ test_is g.line (number_of g.code) f.line (number_of f.code) k) in
    elim (cases_lt h.line g.line) [
      | inl less ↦ not_g (inl less)
      | inr from ↦ elim (cases_lt g.line f.line) [
        | inl less ↦ not_f (inl less)
        | inr above ↦ elim far [
          | inl less ↦ omega (arith, less, from, above)
          | inr both ↦ elim (cases_lt (number_of h.code) (number_of g.code)) [
            | inl low ↦ (let same = both.0 in not_g (inr (omega (arith, from, above, same), low)))
            | inr high ↦ (let same = both.0 in let low = both.1 in not_f (inr (omega (arith, from, above, same), omega (arith, high, low))))
          ]
        ]
      ]
    ])
