-- What the checker tells first of the lines of groups of whole functions is a limit of numbers.
use Rattle.std.proofs.Common.{◌≡◌, ℕ, List, [], ◌∷◌, ◌++◌, true, false, Some, ap, ◌∙◌, inl, inr, ◌⊎◌}
use Rattle.std.specs.Prelude.{slice_get}
use Rattle.plan.specs.Plan.{Statement, Seq, For, Let, First, Guard, Alloc, Fetch, Store, Publish, Statements, Empty, Then, Group, Plan}
use Rattle.plan.specs.View.{plan_of}
use Rattle.plan.specs.Lines.{group_line}
use Rattle.plan.specs.Certificate.Certificate.{Certificate, certificate_of}
use Rattle.meaning.specs.Algorithm.{Algorithm}
use Rattle.plan.specs.Semantics.Setting.{setting_of}
use Rattle.soundness.specs.Given.{outline_of}
use Rattle.soundness.specs.Outline.Flaws.{Flaw, unless, first_of, line_told}
use Rattle.validation.specs.Groups.Lines.{Here, in_loop, inside, in_later, before, after, is_empty, flaws_of_groups, start}
use Rattle.validation.specs.Groups.Inside.{Inside, InsideOne}
use Rattle.validation.proofs.Told.{Has, has_parts, flag_is, Tests, flags}
use Rattle.validation.proofs.GroupsTold.{inside_map, tests, Own, walked, cells_at, pieces_at, head_tests, head, body, found_in}
use Rattle.validation.proofs.Unknown.{unknown_told}
use Rattle.validation.proofs.Another.{another_told}
use Rattle.validation.proofs.WideLines.{wide_told}
use Rattle.completeness.specs.Laws.{IsNoVector, IsNoVectorAt, OnlyLimitsAreToldOfGroups}
use Rattle.completeness.proofs.KnownLines.{known as names_known}
use Rattle.completeness.proofs.Unlike.{stored}
use Rattle.completeness.proofs.VectorLines.{fit}
use Rattle.completeness.proofs.AllocForms.{all_within}

-- ---- which codes a line's flaws have

-- the code of names, of forms or of limits; or that of the third test, which fails
abbrev Codes : Tests → ℕ → Type 0
Codes t k = (k ≡ 2) ⊎ ((k ≡ 3) ⊎ ((k ≡ 14) ⊎ ((k ≡ t.code) × (t.third ≡ false))))

codes_are : (t : Tests) (line k l : ℕ) → Has k l (flags t line) → Codes t k × (line_told line ≡ l)
codes_are t line k l h = first (has_parts k l (unless t.names 2 line) (unless t.forms 3 line ++ (unless t.third t.code line ++ unless t.limits 14 line)) h)
  where
    third : Has k l (unless t.third t.code line) ⊎ Has k l (unless t.limits 14 line) → Codes t k × (line_told line ≡ l)
    third (inl i) = (let f = flag_is t.third t.code line k l i in (inr (inr (inr (f.code, f.fails))), f.line_is))
    third (inr i) = (let f = flag_is t.limits 14 line k l i in (inr (inr (inl f.code)), f.line_is))

    second : Has k l (unless t.forms 3 line) ⊎ Has k l (unless t.third t.code line ++ unless t.limits 14 line) → Codes t k × (line_told line ≡ l)
    second (inl i) = (let f = flag_is t.forms 3 line k l i in (inr (inl f.code), f.line_is))
    second (inr i) = third (has_parts k l (unless t.third t.code line) (unless t.limits 14 line) i)

    first : Has k l (unless t.names 2 line) ⊎ Has k l (unless t.forms 3 line ++ (unless t.third t.code line ++ unless t.limits 14 line)) → Codes t k × (line_told line ≡ l)
    first (inl i) = (let f = flag_is t.names 2 line k l i in (inl f.code, f.line_is))
    first (inr i) = second (has_parts k l (unless t.forms 3 line) (unless t.third t.code line ++ unless t.limits 14 line) i)

-- K2, K3, K12 or K14
abbrev IsOther : ℕ → Type 0
IsOther k = (k ≡ 2) ⊎ ((k ≡ 3) ⊎ ((k ≡ 14) ⊎ (k ≡ 12)))

-- ---- lines inside a group

-- what is so of some line, and something else besides
module _ (C : Type 0) (Q : Statement → Here → Type 0) where
  abbrev Either : Statement → Here → Type 0
  Either s here = C ⊎ Q s here

  mutual
    parted : (s : Statement) (here : Here) → Inside Either s here → C ⊎ Inside Q s here
    parted (Seq all) here h = parted_all all here h
    parted (For i x kind inner) here (inl h) = elim h [ inl c ↦ inl c | inr q ↦ inr (inl q) ]
    parted (For i x kind inner) here (inr h) = elim (parted inner (in_loop i here) h) [ inl c ↦ inl c | inr q ↦ inr (inr q) ]
    parted (Let i pick forms) here h = h
    parted (First i a b) here (inl h) = elim h [ inl c ↦ inl c | inr q ↦ inr (inl q) ]
    parted (First i a b) here (inr (inl h)) = elim (parted a (inside here) h) [ inl c ↦ inl c | inr q ↦ inr (inr (inl q)) ]
    parted (First i a b) here (inr (inr h)) = elim (parted b (in_later a here) h) [ inl c ↦ inl c | inr q ↦ inr (inr (inr q)) ]
    parted (Guard low high inner) here (inl h) = elim h [ inl c ↦ inl c | inr q ↦ inr (inl q) ]
    parted (Guard low high inner) here (inr h) = elim (parted inner (inside here) h) [ inl c ↦ inl c | inr q ↦ inr (inr q) ]
    parted (Alloc b f places) here h = h
    parted (Fetch b g region) here h = h
    parted (Store b k at e) here h = h
    parted (Publish k) here h = h

    parted_all : (all : Statements) (here : Here) → InsideOne Either all here → C ⊎ InsideOne Q all here
    parted_all Empty here h = absurd h
    parted_all (Then a rest) here (inl h) = elim (parted a (before (is_empty rest) here) h) [ inl c ↦ inl c | inr q ↦ inr (inl q) ]
    parted_all (Then a rest) here (inr h) = elim (parted_all rest (after a here) h) [ inl c ↦ inl c | inr q ↦ inr (inr q) ]

module _ (a : Algorithm) (p : Plan) (c : Certificate) (n : ℕ) (g : Group) (k l : ℕ) where
  abbrev Vector : Statement → Here → Type 0
  Vector s here = (line_told here.line ≡ l) × IsNoVector a (setting_of p c n g) s

  abbrev Asked : Statement → Here → Tests
  Asked s here = tests a p c g (outline_of p c n g) s here

  no : true ≡ false → ⊥
  no e = cc e

  line_is : (s : Statement) (here : Here) → Own a p c g (outline_of p c n g) k l s here → IsOther k ⊎ Vector s here
  line_is s here h = (let w = codes_are (Asked s here) here.line k l h in of s here w.0 w.1)
    where
      third : (s : Statement) (here : Here) → line_told here.line ≡ l → k ≡ (Asked s here).code → (Asked s here).third ≡ false → IsOther k ⊎ Vector s here
      third (Seq all) here e code fails = absurd (no fails)
      third (For i x kind inner) here e code fails = inr (e, fails)
      third (Let i pick forms) here e code fails = absurd (no fails)
      third (First i s t) here e code fails = absurd (no fails)
      third (Guard low high inner) here e code fails = absurd (no fails)
      third (Alloc b f places) here e code fails = absurd (no fails)
      third (Fetch b q region) here e code fails = absurd (no fails)
      third (Store b q at t) here e code fails = inl (inr (inr (inr code)))
      third (Publish q) here e code fails = absurd (no fails)

      of : (s : Statement) (here : Here) → Codes (Asked s here) k → line_told here.line ≡ l → IsOther k ⊎ Vector s here
      of s here (inl e) line = inl (inl e)
      of s here (inr (inl e)) line = inl (inr (inl e))
      of s here (inr (inr (inl e))) line = inl (inr (inr (inl e)))
      of s here (inr (inr (inr w))) line = third s here line w.0 w.1

  body_is : (s : Statement) (here : Here) → Inside (Own a p c g (outline_of p c n g) k l) s here → IsOther k ⊎ Inside Vector s here
  body_is s here h = parted (IsOther k) Vector s here (inside_map (Own a p c g (outline_of p c n g) k l) (Either (IsOther k) Vector) line_is s here h)

  head_is : (cells pieces : ℕ) → Has k l (head a p c n g cells pieces) → IsOther k
  head_is cells pieces h = of (codes_are (head_tests a p c n g cells pieces) (line_told (group_line p n)) k l h).0
    where
      of : Codes (head_tests a p c n g cells pieces) k → IsOther k
      of (inl e) = inl e
      of (inr (inl e)) = inr (inl e)
      of (inr (inr (inl e))) = inr (inr (inl e))
      of (inr (inr (inr w))) = absurd (no w.1)

-- a flaw of the lines of groups is one of these, or a wrong vector loop
flaw_is : (a : Algorithm) (p : Plan) (c : Certificate) (k l : ℕ) → Has k l (flaws_of_groups a p c) → IsOther k ⊎ IsNoVectorAt a p c l
flaw_is a p c k l h =
    let w = found_in a p c k l h in
    of w.number w.group w.is.there w.is.has
  where
    of : (n : ℕ) (g : Group) → slice_get p.groups n ≡ Some g → Has k l (head a p c n g (cells_at p.groups n 0) (pieces_at p.groups n 0)) ⊎ Has k l (body a p c n g) → IsOther k ⊎ IsNoVectorAt a p c l
    of n g there (inl i) = inl (head_is a p c n g k l (cells_at p.groups n 0) (pieces_at p.groups n 0) i)
    of n g there (inr i) =
        let first = start (line_told (group_line p n)) g in
        elim (body_is a p c n g k l g.body first (walked a p c g (outline_of p c n g) k l g.body first i)) [
          | inl e ↦ inl e
          | inr v ↦ inr (record { number = n; group = g; there = there; stands = v })
        ]

some_flaw : (x y : Flaw) → Some x ≡ Some y → x ≡ y
some_flaw x y e = cc e

first_has : (f : Flaw) (fs : List Flaw) → first_of fs ≡ Some f → Has f.code f.line fs
first_has f [] e = absurd (cc e)
first_has f (x ∷ xs) e = (let same = some_flaw _ _ e in inl (ap (λ (y : Flaw). y.code) same, ap (λ (y : Flaw). y.line) same))

-- the first one, by its code
first_is : (f : Flaw) (fs : List Flaw) → first_of fs ≡ Some f → (k : ℕ) → f.code ≡ k → first_of fs ≡ Some (record { code = k; line = f.line })
first_is f [] e k is = absurd (cc e)
first_is f (x ∷ xs) e k is =
    let same = some_flaw _ _ e in
    let code : x.code ≡ k = ap (λ (y : Flaw). y.code) same ∙ is in
    let line : line_told x.line ≡ f.line = ap (λ (y : Flaw). y.line) same in
    (λ i. Some (record { code = code i; line = line i }))

pub told : OnlyLimitsAreToldOfGroups
told a s l well legal small regions groups all free lines once f e =
    of (flaw_is a (plan_of l.plan) (certificate_of l.certificate) f.code f.line (first_has f (flaws_of_groups a (plan_of l.plan) (certificate_of l.certificate)) e))
  where
    with_code : (k : ℕ) → f.code ≡ k → first_of (flaws_of_groups a (plan_of l.plan) (certificate_of l.certificate)) ≡ Some (record { code = k; line = f.line })
    with_code k is = first_is f (flaws_of_groups a (plan_of l.plan) (certificate_of l.certificate)) e k is

    of : IsOther f.code ⊎ IsNoVectorAt a (plan_of l.plan) (certificate_of l.certificate) f.line → f.code ≡ 14
    of (inl (inl is)) =
        absurd (names_known a s l well legal small regions groups all free lines f.line ((unknown_told a (plan_of l.plan) (certificate_of l.certificate)).meant f.line (with_code 2 is)))
    of (inl (inr (inl is))) =
        absurd (all_within a s l well legal small regions groups all f.line ((wide_told a (plan_of l.plan) (certificate_of l.certificate)).meant f.line (with_code 3 is)))
    of (inl (inr (inr (inl is)))) = is
    of (inl (inr (inr (inr is)))) =
        absurd (stored a s l well legal small regions groups free all f.line ((another_told a (plan_of l.plan) (certificate_of l.certificate)).meant f.line (with_code 12 is)))
    of (inr v) = absurd (fit a s l well legal small regions groups all once f.line v)
