-- Of the fetch lines before the first broken line of a group it can be told what they read.
use Rattle.std.proofs.Common.{◌≡◌, ℕ, zero, suc, ◌+◌, ◌-◌, ◌^◌, ◌<◌, ◌≤◌, List, [], ◌∷◌, ◌++◌, take, Bool, true, false, arith, ap, refl, sym, subst, Option, Some, inl, inr}
use Rattle.std.specs.Prelude.{slice_get, MatchOption}
use Rattle.std.specs.List.{AllByRecursion, Any}
use Rattle.std.proofs.lemmas.Bool.{cases_lt}
use Rattle.std.proofs.lemmas.List.Elements.{All-push}
use Rattle.lin.specs.Forms.{Form}
use Rattle.lin.specs.declared.span.Span1.{Span1}
use Rattle.meaning.specs.Algorithm.{Algorithm}
use Rattle.plan.specs.Plan.{Statement, Seq, For, Let, First, Guard, Alloc, Fetch, Store, Publish, Statements, Empty, Then, Group, Plan}
use Rattle.plan.specs.Lines.{lines, body_line, group_line}
use Rattle.plan.specs.Certificate.Certificate.{Certificate}
use Rattle.plan.specs.Certificate.Cells.{first_piece}
use Rattle.soundness.specs.Outline.Flaws.{Flaw as Said, first_of, line_told, told}
use Rattle.soundness.specs.Outline.Forms.{are_within_limits, spans_are_within_limits}
use Rattle.soundness.specs.Outline.Refusals.Codes.{number_of}
use Rattle.soundness.specs.declared.outline.refusals.code.Flaw.{Flaw}
use Rattle.shares.specs.Boxes.{AreLimited, IsLimited}
use Rattle.shares.specs.Early.{AreReadBefore, IsRead}
use Rattle.shares.specs.FetchLines.{FetchLine, LineIsLimited, block_fetch_lines, fetch_lines, fetch_lines_from, plan_fetch_lines}
use Rattle.shares.specs.Lets.{Naming, NamingsAreLimited, naming}
use Rattle.validation.specs.Groups.Inside.{Inside, InsideOne}
use Rattle.validation.specs.Groups.Laws.{LimitsAreTold, WideFormsAreTold}
use Rattle.validation.specs.Groups.Lines.{Here, after, before, flaws_of_groups, is_empty, start}
use Rattle.validation.specs.Groups.Wrong.{HasWide, IsWideAt, PassesLimitAt, pieces_of}
use Rattle.validation.specs.Told.{IsNoLater, IsTold}
use Rattle.validation.specs.Wide.{IsWide, RegionIsWide}
use Rattle.validation.proofs.Wide.{forms_are_wide, region_is_wide}
use Rattle.audit.proofs.OfVerdict.Lists.{forms_limited, spans_limited}

-- ---- forms that are not wide are within the limits

region_limited : (xs : List Span1) → ¬ RegionIsWide xs → IsLimited xs
region_limited xs not = of (spans_are_within_limits xs) refl
  where
    of : (b : Bool) → spans_are_within_limits xs ≡ b → IsLimited xs
    of true e = spans_limited xs e
    of false e = absurd (not (region_is_wide xs e))

let_limited : (fs : List Form) → ¬ Any IsWide fs → AreLimited fs
let_limited fs not = of (are_within_limits fs) refl
  where
    of : (b : Bool) → are_within_limits fs ≡ b → AreLimited fs
    of true e = forms_limited fs e
    of false e = absurd (not (forms_are_wide fs e))

-- ---- the lines of a body

same_lets : (ls : List Naming) → ls ++ [] ≡ ls
same_lets [] = refl
same_lets (l ∷ ls) = ap (λ (ks : List Naming). l ∷ ks) (same_lets ls)

module _ (n low limit : ℕ) where
  -- where the line stands before the limit it is limited; it is of this group and stands no earlier than its first line
  abbrev IsEarly : FetchLine → Type 0
  IsEarly x = ((low ≤ x.line) × (x.group ≡ n)) × (line_told x.line < limit → LineIsLimited x)

  abbrev IsWideOn : ℕ → Statement → Here → Type 0
  IsWideOn line s here = (line_told here.line ≡ line) × HasWide s

  abbrev NoneIn : Statement → Here → Type 0
  NoneIn a here = (line : ℕ) → line < limit → ¬ Inside (IsWideOn line) a here

  abbrev NoneInAll : Statements → Here → Type 0
  NoneInAll all here = (line : ℕ) → line < limit → ¬ InsideOne (IsWideOn line) all here

  both : (xs ys : List FetchLine) → AllByRecursion IsEarly xs → AllByRecursion IsEarly ys → AllByRecursion IsEarly (xs ++ ys)
  both [] ys h k = k
  both (x ∷ xs) ys h k = (h.0, both xs ys h.1 k)

  lets_more : (ls : List Naming) (a : Statement) (at : ℕ) (here : Here) → here.line ≡ line_told at → line_told at < limit → NoneIn a here → NamingsAreLimited ls → NamingsAreLimited (ls ++ naming a)
  lets_more ls (Let i pick forms) at here is less none k =
      All-push (λ x. AreLimited x.forms) ls (record { symbol = i; pick = pick; forms = forms }) k
      (let_limited forms (λ wide. none (line_told at) less ((omega (arith, is)), wide)))
  lets_more ls (Seq all) at here is less none k = subst NamingsAreLimited (sym (same_lets ls)) k
  lets_more ls (For i x kind body) at here is less none k = subst NamingsAreLimited (sym (same_lets ls)) k
  lets_more ls (First i a b) at here is less none k = subst NamingsAreLimited (sym (same_lets ls)) k
  lets_more ls (Guard low' high body) at here is less none k = subst NamingsAreLimited (sym (same_lets ls)) k
  lets_more ls (Alloc b f places) at here is less none k = subst NamingsAreLimited (sym (same_lets ls)) k
  lets_more ls (Fetch b g region) at here is less none k = subst NamingsAreLimited (sym (same_lets ls)) k
  lets_more ls (Store b j places v) at here is less none k = subst NamingsAreLimited (sym (same_lets ls)) k
  lets_more ls (Publish c) at here is less none k = subst NamingsAreLimited (sym (same_lets ls)) k

  mutual
    early_lines : (ls : List Naming) (a : Statement) (at : ℕ) (here : Here) → low ≤ at → here.line ≡ line_told at →
        (line_told at < limit → NamingsAreLimited ls) → NoneIn a here → AllByRecursion IsEarly (fetch_lines n ls a at)
    early_lines ls (Seq all) at here from is k none = early_block ls all at here from is k none
    early_lines ls (For i x kind body) at here from is k none = tt
    early_lines ls (Let i pick forms) at here from is k none = tt
    early_lines ls (First i a b) at here from is k none = tt
    early_lines ls (Guard low' high body) at here from is k none = tt
    early_lines ls (Alloc b f places) at here from is k none = tt
    early_lines ls (Fetch b g region) at here from is k none =
        (((from, refl), λ less. (region_limited region (λ wide. none (line_told at) less ((omega (arith, is)), wide)), k less)), tt)
    early_lines ls (Store b j places v) at here from is k none = tt
    early_lines ls (Publish c) at here from is k none = tt

    early_block : (ls : List Naming) (all : Statements) (at : ℕ) (here : Here) → low ≤ at → here.line ≡ line_told at →
        (line_told at < limit → NamingsAreLimited ls) → NoneInAll all here → AllByRecursion IsEarly (block_fetch_lines n ls all at)
    early_block ls Empty at here from is k none = tt
    early_block ls (Then a rest) at here from is k none =
        let mine : NoneIn a (before (is_empty rest) here) = λ line less i. none line less (inl i) in
        let theirs : NoneInAll rest (after a here) = λ line less i. none line less (inr i) in
        both (fetch_lines n ls a at) (block_fetch_lines n (ls ++ naming a) rest (at + lines a))
        (early_lines ls a at (before (is_empty rest) here) from is k mine)
        (early_block (ls ++ naming a) rest (at + lines a) (after a here) (omega (arith, from)) (omega (arith, is))
        (λ less. let first : line_told at < limit = omega (arith, less) in lets_more ls a at (before (is_empty rest) here) is first mine (k first)) theirs)

no_lets : NamingsAreLimited []
no_lets k d less = absurd (omega (arith, less))

-- ---- a plan's lines

counted : (gs : List Group) (n : ℕ) → pieces_of (take (suc n) gs) ≡ first_piece gs (suc n)
counted [] n = refl
counted (g ∷ gs) zero = none gs
  where
    none : (hs : List Group) → pieces_of (take 1 (g ∷ hs)) ≡ first_piece (g ∷ hs) 1
    none [] = refl
    none (h ∷ hs) = refl
counted (g ∷ gs) (suc n) = let h = counted gs n in omega (arith, h)

module _ (p : Plan) (limit : ℕ) (narrow : (line : ℕ) → line < limit → ¬ IsWideAt p line) (few : (line : ℕ) → line < limit → ¬ PassesLimitAt p line) where
  abbrev Read : FetchLine → Type 0
  Read x = line_told x.line < limit → IsRead p x

  all_both : (xs ys : List FetchLine) → AllByRecursion Read xs → AllByRecursion Read ys → AllByRecursion Read (xs ++ ys)
  all_both [] ys h k = k
  all_both (x ∷ xs) ys h k = (h.0, all_both xs ys h.1 k)

  pieces_few : (n : ℕ) (g : Group) → slice_get p.groups n ≡ Some g → line_told (group_line p n) < limit → first_piece p.groups (n + 1) ≤ 2 ^ 20
  pieces_few n g at less = elim (cases_lt (2 ^ 20) (first_piece p.groups (suc n))) [
    | inl past ↦
        let same = counted p.groups n in
        absurd (few (line_told (group_line p n)) less (inl (record { number = n; group = g; there = at; line_is = refl; so = inr (inr (inl (omega (arith, past, same)))) })))
    | inr most ↦ (let one : n + 1 ≡ suc n = omega arith in let e = ap (first_piece p.groups) one in omega (arith, most, e))
  ]

  of_group : (n : ℕ) (g : Group) → slice_get p.groups n ≡ Some g → (xs : List FetchLine) → AllByRecursion (IsEarly n (body_line p n) limit) xs → AllByRecursion Read xs
  of_group n g at [] h = tt
  of_group n g at (x ∷ xs) h = (
    λ less.
        let early = h.0 in
        let from = early.0.0 in
        let few = pieces_few n g at (omega (arith, from, less)) in
        record { limits = early.1 less; pieces = subst (λ (m : ℕ). first_piece p.groups (m + 1) ≤ 2 ^ 20) (sym early.0.1) few },
    of_group n g at xs h.1,
  )

  body : (n : ℕ) (g : Group) → slice_get p.groups n ≡ Some g → AllByRecursion Read (fetch_lines n [] g.body (body_line p n))
  body n g at =
      of_group n g at (fetch_lines n [] g.body (body_line p n))
      (early_lines n (body_line p n) limit [] g.body (body_line p n) (start (line_told (group_line p n)) g) (omega arith) (omega arith) (λ less. no_lets)
      (λ line less i. narrow line less (inr (record { number = n; group = g; there = at; stands = i }))))

  groups : (k : ℕ) (gs : List Group) → ((m : ℕ) (g : Group) → slice_get gs m ≡ Some g → slice_get p.groups (k + m) ≡ Some g) → AllByRecursion Read (fetch_lines_from p k gs)
  groups k [] from = tt
  groups k (g ∷ gs) from =
      all_both (fetch_lines k [] g.body (body_line p k)) (fetch_lines_from p (k + 1) gs)
      (body k g (let here : k + 0 ≡ k = omega arith in subst (λ (i : ℕ). slice_get p.groups i ≡ Some g) here (from 0 g refl)))
      (groups (k + 1) gs (λ m h at. let here : k + suc m ≡ (k + 1) + m = omega arith in subst (λ (i : ℕ). slice_get p.groups i ≡ Some h) here (from (suc m) h at)))

  at_place : (xs : List FetchLine) (i : ℕ) (x : FetchLine) → slice_get xs i ≡ Some x → AllByRecursion Read xs → Read x
  at_place [] i x at h = absurd (cc at)
  at_place (y ∷ ys) zero x at h = let same : y ≡ x = cc at in subst Read same h.0
  at_place (y ∷ ys) (suc i) x at h = at_place ys i x at h.1

  all_read : AreReadBefore p limit
  all_read i x at less = at_place (plan_fetch_lines p) i x at (groups 0 p.groups (λ m g there. let here : m ≡ 0 + m = omega arith in subst (λ (k : ℕ). slice_get p.groups k ≡ Some g) here there)) less

-- ---- before the first broken line

none_before : (code : ℕ) (IsSo : ℕ → Type 0) (first : Option Said) (b : Said) → IsTold code IsSo first → first ≡ Some b → (line : ℕ) → line < b.line → ¬ IsSo line
none_before code IsSo first b law is line less so =
    let later : IsNoLater b code line = subst (λ (o : Option Said). MatchOption o ⊥ (λ f. IsNoLater f code line)) is (law.found line so) in
    let before = later.before in
    omega (arith, before, less)

pub fetches_read : WideFormsAreTold → LimitsAreTold → (a : Algorithm) (p : Plan) (c : Certificate) (broken : Flaw) → told (Some broken) ≡ first_of (flaws_of_groups a p c) → AreReadBefore p broken.line
fetches_read wide limits a p c broken is =
    let b : Said = record { code = number_of broken.code; line = broken.line } in
    all_read p broken.line (none_before 3 (IsWideAt p) (first_of (flaws_of_groups a p c)) b (wide a p c) (sym is))
    (none_before 14 (PassesLimitAt p) (first_of (flaws_of_groups a p c)) b (limits a p c) (sym is))
