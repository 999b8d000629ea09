-- The plan of two groups is in plain form.
use Rattle.std.proofs.Common.{◌≡◌, ℕ, zero, suc, ◌<◌, true, false, List, [], ◌∷◌, length, map, Some, refl, sym, ap, ◌∙◌, subst, inl, inr, arith}
use Rattle.std.specs.Prelude.{ℤ, pos, negsuc, ◌&&◌, nat_lt, int_le, codes, slice_get, slice_index}
use Rattle.std.specs.List.{AllByRecursion, range_with_len}
use Rattle.std.proofs.lemmas.Int.{ints}
use Rattle.std.proofs.lemmas.Bool.Decides.{nat_tests}
use Rattle.meaning.specs.Image.Raster.{is_within}
use Rattle.lin.specs.Forms.{number}
use Rattle.lin.specs.declared.span.Span1.{Span1}
use Rattle.meaning.specs.Algorithm.{Function}
use Rattle.numeric.specs.declared.ty.Ty.TheVariants.{U8}
use Rattle.plan.specs.Plan.{Group}
use Rattle.plan.specs.declared.stmt.Places.TheVariants.{From}
use Rattle.plan.specs.Certificate.Cells.{Piece, cell, pieces}
use Rattle.plan.specs.Semantics.Setting.{setting_of}
use Rattle.plan.specs.Semantics.Worked.{symbol, is}
use Rattle.soundness.specs.Claims.{In}
use Rattle.soundness.specs.Given.{outline_of, given_of}
use Rattle.soundness.specs.Origins.{Given, Outline}
use Rattle.soundness.specs.Shown.{start}
use Rattle.soundness.proofs.Refines.{and_parts}
use Rattle.meaning.specs.Inlining.PutIn.{put_in}
use Rattle.soundness.specs.Nests.Nest.{Loop}
use Rattle.soundness.specs.Nests.Worked.{binding_of}
use Rattle.soundness.specs.Nests.Tests.{has_ends, span_at}
use Rattle.soundness.specs.Nests.Plain.{is_small, FormsAreAtMostThemselves, IsRegionOf, PlainNestsAreAccepted}
use Rattle.orders.specs.Work.{Work, OwnIsInTable, OwnIsApart, OwnIsWhole, NeedsIsEarlier, FetchedIsNeeded}
use Rattle.headline.specs.Numbers.{is_cell}
use Rattle.headline.specs.Sound.{IsPublished}
use Rattle.headline.specs.Theorem.{HasSoundCells}
use Rattle.headline.specs.Work.{cells_fetched, work_of}
use Rattle.headline.proofs.Members.{in_of}
use Rattle.rules.specs.Widths.Widths.{wide_lines}
use Rattle.audit.specs.Verdict.Shown.Plain.{IsPlain, IsPlainPlan}
use Rattle.plan.specs.Lines.{body_line}
use Rattle.soundness.specs.Binders.View.{grid_binders}
use Rattle.validation.specs.Stored.Definitions.{stored_in}
use Rattle.audit.specs.Verdict.Shown.Wide.{HasHead, HasLines, HasOutput}
use Rattle.audit.specs.Verdict.Shown.Worked.{of_input, of_calls, two, f_group, out_group, here, both, of_cells, two_plan, two_certificate, two_rules, TwoIsAccepted}
use Rattle.tails.specs.Nests.{PlainNestsAreTaken}
use Rattle.audit.proofs.OfVerdict.ShownPlain.{plain_is_accepted}
use Rattle.audit.proofs.OfVerdict.Stores.{all_defined}

-- ---- the head

pub head : HasHead two two_plan
head = record {
  name = refl;
  input = record { name = refl; ty = refl; extents = refl };
  output = record { name = refl; ty = refl; extents = refl };
}

abbrev f_function : Function
f_function = record { name = codes "f"; ty = U8; variables = codes "x" ∷ []; value = of_input; changes = [] }

abbrev out_function : Function
out_function = record { name = codes "out"; ty = U8; variables = codes "x" ∷ []; value = of_calls; changes = [] }

-- ---- each group's lines

f_published : IsPublished two_plan two_certificate 0 f_group
f_published = record {
  ends = (record { lower = omega arith; upper = omega arith }, tt);
  last = (refl, (refl, refl));
  apart = λ i e. absurd (cc e);
}

f_lines : HasLines two two_plan two_certificate 0 f_group
f_lines = record {
  published = f_published;
  covered = refl;
  definitions = λ samples s.
      let given : Given = given_of two samples (outline_of two_plan two_certificate 0 f_group) in
      all_defined two (put_in two (stored_in two two_plan)) given (setting_of two_plan two_certificate 0 f_group) f_group.body s (tt, (((λ t. (f_function, refl, refl, refl)), tt), (tt, tt)));
  free = (tt, ((refl, tt), (tt, tt)));
}

out_published : IsPublished two_plan two_certificate 1 (out_group both)
out_published = record {
  ends = (record { lower = omega arith; upper = omega arith }, tt);
  last = (refl, (refl, (refl, (refl, refl))));
  apart = λ i e. absurd (cc e);
}

out_lines : HasLines two two_plan two_certificate 1 (out_group both)
out_lines = record {
  published = out_published;
  covered = refl;
  definitions = λ samples s.
      let given : Given = given_of two samples (outline_of two_plan two_certificate 1 (out_group both)) in
      all_defined two (put_in two (stored_in two two_plan)) given (setting_of two_plan two_certificate 1 (out_group both)) (out_group both).body s
      (tt, (tt, (tt, (((λ t. (out_function, refl, refl, refl)), tt), (tt, tt)))));
  free = (tt, (tt, (tt, ((refl, tt), (tt, tt)))));
}

lines : (n : ℕ) (g : Group) → slice_get two_plan.groups n ≡ Some g → HasLines two two_plan two_certificate n g
lines zero g e = let same : f_group ≡ g = cc e in subst (HasLines two two_plan two_certificate 0) same f_lines
lines (suc zero) g e = let same : out_group both ≡ g = cc e in subst (HasLines two two_plan two_certificate 1) same out_lines
lines (suc (suc n)) g e = absurd (cc e)

-- ---- plain form

abbrev f_outline : Outline
f_outline = outline_of two_plan two_certificate 0 f_group

abbrev out_outline : Outline
out_outline = outline_of two_plan two_certificate 1 (out_group both)

-- one loop over symbol 1
pub one_loop : (x : Span1) → is_small x ≡ true → IsRegionOf (record { symbol = 1; span = x } ∷ []) (is (codes "x") (symbol 1) ∷ []) (x ∷ [])
one_loop x h = record {
  many = refl;
  spans = λ l m. elim m [ inl e ↦ subst (λ (k : Loop). span_at k.symbol (is (codes "x") (symbol 1) ∷ []) (x ∷ []) ≡ Some k.span) (sym e) refl | inr none ↦ absurd none ];
  small = λ l m. elim m [ inl e ↦ ap (λ (k : Loop). is_small k.span) e ∙ h | inr none ↦ absurd none ];
}

pub only_one : (P : ℕ → Type 0) (k : ℕ) → P k → (c : ℕ) → In c (k ∷ []) → P c
only_one P k h c (inl e) = subst P (sym e) h
only_one P k h c (inr none) = absurd none

f_plain : IsPlain (two_rules 0) two f_outline f_group.body (body_line two_plan 0) (start (grid_binders (2 ∷ [])))
f_plain = (
  (refl, refl),
  (λ c m. absurd m),
  (
    (
      refl,
      refl,
      (
        record {
          stored = record { places = From (symbol 0) 1 ∷ []; stand = refl; seated = refl };
          updated = tt;
          left = (tt, tt);
          right = ((refl, (tt, tt)), tt);
        },
        (λ c m. absurd m),
        tt,
      ),
    ),
    (only_one _ 0 (record {
      places = From (symbol 0) 1 ∷ [];
      stand = refl;
      made = inl (record {
        loops = record { symbol = 1; span = here } ∷ [];
        buffer = 0;
        at = is (codes "x") (symbol 1) ∷ [];
        value = of_input;
        nest = refl;
        plain = record {
          definition = refl;
          function = refl;
          forms = refl;
          pure = refl;
          matched = refl;
          region = one_loop here refl;
          straight = refl;
          new = refl;
          seated = refl;
        };
      });
    })),
    (record { used = refl; inside = refl }, (λ c m. absurd m), tt),
  ),
)

out_plain : IsPlain (two_rules 1) two out_outline (out_group both).body (body_line two_plan 1) (start (grid_binders (1 ∷ [])))
out_plain = (
  (refl, refl),
  (λ c m. absurd m),
  (
    record { places = From (number (pos 0)) 2 ∷ []; stand = refl; seated = refl },
    (only_one _ 1 (record {
      places = From (number (pos 0)) 2 ∷ [];
      stand = refl;
      made = inr (inl (record {
        buffer = 0;
        group = 0;
        region = both ∷ [];
        nest = refl;
        plain = record {
          definition = refl;
          function = refl;
          same = refl;
          small = λ x m. elim m [ inl e ↦ subst (λ (y : Span1). (is_small y ≡ true) × (has_ends y ≡ true)) (sym e) (refl, refl) | inr none ↦ absurd none ];
          straight = refl;
          seated = refl;
        };
      }));
    })),
    (
      (refl, refl),
      (λ c m. absurd m),
      (
        (
          refl,
          refl,
          (
            record {
              stored = record { places = From (number (pos 0)) 2 ∷ []; stand = refl; seated = refl };
              updated = tt;
              left = (tt, tt);
              right = (
                ((record { used = refl; stored = record { places = From (number (pos 0)) 2 ∷ []; stand = refl; seated = refl }; inside = refl; met = tt }, (tt, tt)), tt),
                (record { used = refl; stored = record { places = From (number (pos 0)) 2 ∷ []; stand = refl; seated = refl }; inside = refl; met = tt }, ((tt, tt), tt)),
              );
            },
            (λ c m. absurd m),
            tt,
          ),
        ),
        (only_one _ 2 (record {
          places = From (number (pos 0)) 2 ∷ [];
          stand = refl;
          made = inl (record {
            loops = record { symbol = 1; span = both } ∷ [];
            buffer = 1;
            at = is (codes "x") (symbol 1) ∷ [];
            value = of_cells;
            nest = refl;
            plain = record {
              definition = refl;
              function = refl;
              forms = refl;
              pure = refl;
              matched = refl;
              region = one_loop both refl;
              straight = refl;
              new = refl;
              seated = refl;
            };
          });
        })),
        (record { used = refl; inside = refl }, (λ c m. absurd m), tt),
      ),
    ),
  ),
)

plain : (n : ℕ) (g : Group) → slice_get two_plan.groups n ≡ Some g → IsPlain (two_rules n) two (outline_of two_plan two_certificate n g) g.body (body_line two_plan n) (start (grid_binders g.grid))
plain zero g e =
    let same : f_group ≡ g = cc e in
    subst (λ (h : Group). IsPlain (two_rules 0) two (outline_of two_plan two_certificate 0 h) h.body (body_line two_plan 0) (start (grid_binders h.grid))) same f_plain
plain (suc zero) g e =
    let same : out_group both ≡ g = cc e in
    subst (λ (h : Group). IsPlain (two_rules 1) two (outline_of two_plan two_certificate 1 h) h.body (body_line two_plan 1) (start (grid_binders h.grid))) same out_plain
plain (suc (suc n)) g e = absurd (cc e)

-- ---- the cells

cells_are : (j : ℕ) (x : Piece) → slice_get (pieces two_plan) j ≡ Some x → AllByRecursion (λ y. is_cell two_plan y ≡ true) (cells_fetched two_plan x)
cells_are zero x e = let same : record { group = 0; at = 0 ∷ [] } ≡ x = cc e in subst (λ (y : Piece). AllByRecursion (λ z. is_cell two_plan z ≡ true) (cells_fetched two_plan y)) same tt
cells_are (suc zero) x e = let same : record { group = 0; at = 1 ∷ [] } ≡ x = cc e in subst (λ (y : Piece). AllByRecursion (λ z. is_cell two_plan z ≡ true) (cells_fetched two_plan y)) same tt
cells_are (suc (suc zero)) x e = let same : record { group = 1; at = 0 ∷ [] } ≡ x = cc e in subst (λ (y : Piece). AllByRecursion (λ z. is_cell two_plan z ≡ true) (cells_fetched two_plan y)) same (refl, (refl, tt))
cells_are (suc (suc (suc j))) x e = absurd (cc e)

abbrev work : Work
work = work_of two two_plan two_certificate []

-- the owner of each cell, and its place there
abbrev owner : ℕ → ℕ
owner zero = 0
owner (suc zero) = 1
owner (suc (suc c)) = 2

abbrev place_at : ℕ → ℕ
place_at zero = 0
place_at (suc zero) = 0
place_at (suc (suc c)) = c

owned : (p i : ℕ) → p < 3 → i < length (work.own p) → (owner (slice_index (work.own p) i) ≡ p) × (place_at (slice_index (work.own p) i) ≡ i)
owned zero zero l m = (refl, refl)
owned zero (suc i) l m = absurd (omega (arith, m))
owned (suc zero) zero l m = (refl, refl)
owned (suc zero) (suc i) l m = absurd (omega (arith, m))
owned (suc (suc zero)) zero l m = (refl, refl)
owned (suc (suc zero)) (suc zero) l m = (refl, refl)
owned (suc (suc zero)) (suc (suc i)) l m = absurd (omega (arith, m))
owned (suc (suc (suc p))) i l m = absurd (omega (arith, l))

apart : OwnIsApart 3 work.own
apart p q i j lp lq li lj e =
    let a = owned p i lp li in
    let b = owned q j lq lj in
    (sym a.0 ∙ ap owner e ∙ b.0, sym a.1 ∙ ap place_at e ∙ b.1)

in_table : OwnIsInTable 3 4 work.own
in_table zero c l m = elim (in_of (0 ∷ []) c m) [ inl e ↦ omega (arith, e) | inr none ↦ absurd none ]
in_table (suc zero) c l m = elim (in_of (1 ∷ []) c m) [ inl e ↦ omega (arith, e) | inr none ↦ absurd none ]
in_table (suc (suc zero)) c l m = elim (in_of (2 ∷ 3 ∷ []) c m) [ inl e ↦ omega (arith, e) | inr n ↦ elim n [ inl e ↦ omega (arith, e) | inr none ↦ absurd none ] ]
in_table (suc (suc (suc p))) c l m = absurd (omega (arith, l))

whole : OwnIsWhole 3 4 work.own
whole zero l = (0, omega arith, (0, omega arith, refl))
whole (suc zero) l = (1, omega arith, (0, omega arith, refl))
whole (suc (suc zero)) l = (2, omega arith, (0, omega arith, refl))
whole (suc (suc (suc zero))) l = (2, omega arith, (1, omega arith, refl))
whole (suc (suc (suc (suc c)))) l = absurd (omega (arith, l))

earlier : NeedsIsEarlier 3 work.needs
earlier zero i l m = absurd (in_of [] i m)
earlier (suc zero) i l m = absurd (in_of [] i m)
earlier (suc (suc zero)) i l m = elim (in_of (0 ∷ 1 ∷ []) i m) [ inl e ↦ omega (arith, e) | inr n ↦ elim n [ inl e ↦ omega (arith, e) | inr none ↦ absurd none ] ]
earlier (suc (suc (suc p))) i l m = absurd (omega (arith, l))

needed : FetchedIsNeeded 3 work.own work.fetched work.needs
needed zero c l m = absurd (in_of [] c m)
needed (suc zero) c l m = absurd (in_of [] c m)
needed (suc (suc zero)) c l m = elim (in_of (0 ∷ 1 ∷ []) c m) [
  | inl e ↦ (0, (0, omega arith, refl), (0, omega arith, sym e))
  | inr n ↦ elim n [ inl e ↦ (1, (1, omega arith, refl), (0, omega arith, sym e)) | inr none ↦ absurd none ]
]
needed (suc (suc (suc p))) c l m = absurd (omega (arith, l))

lists : HasSoundCells work
lists = record { in_table = in_table; apart = apart; whole = whole; earlier = earlier; needed = needed }

-- ---- the output

inside : (at : List ℤ) → is_within (2 ∷ []) at ≡ true → is_cell two_plan (cell 1 at) ≡ true
inside [] h = absurd (cc h)
inside (negsuc x ∷ ps) h = absurd (cc h)
inside (pos x ∷ []) h =
    let k = (and_parts (nat_lt x 2) true h).0 in
    let a : int_le (pos 0) (pos x) ≡ true = grind (arith, nat_tests, ints) in
    let b : int_le (pos x) (pos 1) ≡ true = grind (arith, nat_tests, ints) in
    λ i. ((a i && true) && (b i && true)) && true
inside (pos x ∷ z ∷ ps) h = let k = and_parts (nat_lt x 2) false h in absurd (cc (k.1))

pub output : HasOutput two two_plan
output = record { number = 1; group = out_group both; stands = refl; function = refl; inside = inside }

all_narrow : (n : ℕ) (g : Group) → slice_get two_plan.groups n ≡ Some g → wide_lines (two_rules n) (grid_binders g.grid) (body_line two_plan n) g.body ≡ []
all_narrow zero g e = let same : f_group ≡ g = cc e in subst (λ (h : Group). wide_lines (two_rules 0) (grid_binders h.grid) (body_line two_plan 0) h.body ≡ []) same refl
all_narrow (suc zero) g e = let same : out_group both ≡ g = cc e in subst (λ (h : Group). wide_lines (two_rules 1) (grid_binders h.grid) (body_line two_plan 1) h.body ≡ []) same refl
all_narrow (suc (suc n)) g e = absurd (cc e)

is_plain : IsPlainPlan two_rules two two_plan two_certificate
is_plain = record { head = head; lines = lines; plain = plain; windows = refl; numbers = all_narrow; cells = cells_are; lists = lists; output = output }

pub two_accepted : PlainNestsAreAccepted → PlainNestsAreTaken → FormsAreAtMostThemselves → TwoIsAccepted
two_accepted accepted taken same = record {
  plain = is_plain;
  accepted = plain_is_accepted accepted taken two_rules two two_plan two_certificate (λ n bs f h. same (map (binding_of bs) (range_with_len 0 8)) f h) is_plain;
  wide = refl;
  left_out = refl;
  too_many = refl;
}
