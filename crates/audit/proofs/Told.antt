-- What follows from flaws that are told and from those that are not.
use Rattle.std.proofs.Common.{◌≡◌, ℕ, ◌+◌, ◌<◌, ◌≤◌, zero, suc, Bool, List, [], ◌∷◌, ◌++◌, true, false, Option, Some, None, inl, inr, ap, refl, sym, ◌∙◌, subst, arith}
use Rattle.std.specs.Prelude.{◌==◌, ◌&&◌, ◌⊎◌, nat_lt, if◌then◌else◌, MatchOption, map, option_map, slice_get, length}
use Rattle.std.proofs.lemmas.Bool.Decides.{nat_tests}
use Rattle.std.proofs.lemmas.Option.{slice_get_within}
use Rattle.meaning.specs.Algorithm.{Algorithm}
use Rattle.plan.specs.declared.plan.Group.{Group as GroupHeld}
use Rattle.plan.specs.Plan.{Group, Plan}
use Rattle.plan.specs.Lines.{body_line}
use Rattle.plan.specs.View.{group_of}
use Rattle.plan.specs.Certificate.Certificate.{Certificate}
use Rattle.soundness.specs.Outline.Refusals.Codes.{is_before, least, lesser, number_of}
use Rattle.soundness.specs.declared.outline.refusals.code.Flaw.{Flaw}
use Rattle.soundness.specs.declared.outline.refusals.code.K.TheVariants.{K14}
use Rattle.algo.specs.View.{algorithm_of}
use Rattle.soundness.specs.Outline.Flaws.{Flaw as Said, first_of, told}
use Rattle.soundness.specs.Outline.View.{plan_in, certificate_in, number_in, group_in}
use Rattle.rules.specs.Bounding.Rules.{rules_of}
use Rattle.rules.specs.Bounding.View.{rules_in}
use Rattle.rules.specs.declared.bounding.plan_bounds.PlanBounds.{PlanBounds}
use Rattle.rules.specs.Widths.Widths.{first_told, wide_lines}
use Rattle.validation.specs.Groups.Lines.{flaws_of_groups}
use Rattle.validation.specs.Certificate.Certificate.{flaws_of_certificate, flaws_of_claims, flaws_of_regions}
use Rattle.soundness.specs.Binders.View.{grid_binders}
use Rattle.claims.specs.First.{AllMet, IsFirstUnmet}
use Rattle.audit.specs.Stand.{AreNarrow, AreShown, IsFirstOf, IsFirstOfAll, IsFlaw, IsNarrow}
use Rattle.audit.specs.Verdict.Faults.{IsNarrowUpTo}
use Rattle.audit.specs.Verdict.Left.{LeavesBuffer}
use Rattle.shares.specs.declared.answer.SharesError.{SharesError}
use Rattle.shares.specs.declared.answer.SharesError.TheVariants.{Flaw as FlawTold, Memory}
use Rattle.audit.specs.Refused.{AreOfPieces, IsEarlyFetch, IsOfPieces, IsTold, but_symbols, told_first, wide_or_owed, with_owed}
use Rattle.audit.proofs.Named.{before_or_at}

-- ---- the lesser of two

module _ (P : Flaw → Type 0) where
  lesser_by : (b : Bool) (f g : Flaw) → P f → P g → P (if b then g else f)
  lesser_by true f g h k = k
  lesser_by false f g h k = h

  pub lesser_told : (f g : Flaw) → P f → P g → P (lesser f g)
  lesser_told f g h k = lesser_by (is_before g f) f g h k

  pub least_told : (x y : Option Flaw) (M N : Type 0) → MatchOption x M P → MatchOption y N P → MatchOption (least x y) (M × N) P
  least_told None None M N h k = (h, k)
  least_told None (Some g) M N h k = k
  least_told (Some f) None M N h k = h
  least_told (Some f) (Some g) M N h k = lesser_told f g h k

pub none_of : {A : Type 0} (o : Option A) (N : Type 0) (P : A → Type 0) → MatchOption o N P → o ≡ None → N
none_of o N P h e = subst (λ x. MatchOption x N P) e h

pub some_of : {A : Type 0} (o : Option A) (N : Type 0) (P : A → Type 0) → MatchOption o N P → (x : A) → o ≡ Some x → P x
some_of o N P h x e = subst (λ y. MatchOption y N P) e h

pub match_weaker : (o : Option Flaw) (M N : Type 0) (P Q : Flaw → Type 0) → (M → N) → ((f : Flaw) → P f → Q f) → MatchOption o M P → MatchOption o N Q
match_weaker None M N P Q m p h = m h
match_weaker (Some f) M N P Q m p h = p f h

-- ---- no first one of some is none

no_flaws : (fs : List Said) → None ≡ first_of fs → fs ≡ []
no_flaws [] h = refl
no_flaws (f ∷ fs) h = absurd (cc h)

first_none : (xs ys : List Said) → xs ++ ys ≡ [] → xs ≡ []
first_none [] ys h = refl
first_none (x ∷ xs) ys h = absurd (cc h)

no_lines : (ns : List ℕ) → None ≡ first_told ns → ns ≡ []
no_lines [] h = refl
no_lines (n ∷ ns) h = absurd (cc h)

-- ---- a group

-- the bounds are of this group
pub record AreOf (b : PlanBounds) (a : Algorithm) (p : Plan) (c : Certificate) (n : ℕ) (g : Group) : Type 0 where
  pub algorithm : algorithm_of b.algo.now ≡ a
  pub plan : plan_in b.outlined.now ≡ p
  pub certificate : certificate_in b.outlined.now ≡ c
  pub number : number_in b.outlined.now ≡ n
  pub group : group_in b.outlined.now ≡ g

wide_moved : (b : PlanBounds) (a : Algorithm) (p : Plan) (c : Certificate) (n : ℕ) (g : Group) → AreOf b a p c n g →
    first_told (wide_lines (rules_in b) (grid_binders (group_in b.outlined.now).grid) (body_line (plan_in b.outlined.now) (number_in b.outlined.now)) (group_in b.outlined.now).body)
    ≡ first_told (wide_lines (rules_of a p c n) (grid_binders g.grid) (body_line p n) g.body)
wide_moved b a p c n g h = λ i. first_told (wide_lines (rules_of (h.algorithm i) (h.plan i) (h.certificate i) (h.number i)) (grid_binders (h.group i).grid) (body_line (h.plan i) (h.number
    i)) (h.group i).body)

module _ (a : Algorithm) (p : Plan) (c : Certificate) where
  -- the flaw at a line with a large number
  abbrev IsWide : Option ℕ → Option Flaw → Type 0
  IsWide line r = MatchOption line (r ≡ None) (λ k. r ≡ Some (record { code = K14; line = k }))

  module _ (n : ℕ) (g : Group) (at : slice_get p.groups n ≡ Some g) where
    abbrev Told : Option Flaw → Type 0
    Told r = MatchOption r (IsNarrow a p c n g) (IsFlaw a p c)

    wide_is : (line : Option ℕ) (r : Option Flaw) → IsWide line r → line ≡ first_told (wide_lines (rules_of a p c n) (grid_binders g.grid) (body_line p n) g.body) → Told r
    wide_is None r h is = subst Told (sym h) (no_lines (wide_lines (rules_of a p c n) (grid_binders g.grid) (body_line p n) g.body) is)
    wide_is (Some k) r h is = subst Told (sym h) (inr (inr (inl (record { number = n; group = g; stands = at; code_is = refl; first = sym is }))))

    -- the flaw of a group's numbers, if there is one
    pub group_told : (b : PlanBounds) (line : Option ℕ) (r : Option Flaw) → AreOf b a p c n g
        → line ≡ first_told (wide_lines (rules_in b) (grid_binders (group_in b.outlined.now).grid) (body_line (plan_in b.outlined.now) (number_in b.outlined.now)) (group_in b.outlined.now).body)
        → IsWide line r → Told r
    group_told b line r of first is = wide_is line r is (first ∙ wide_moved b a p c n g of)

    pub line_of : (b : PlanBounds) (line : Option ℕ) (r : Option Flaw) → AreOf b a p c n g
        → line ≡ first_told (wide_lines (rules_in b) (grid_binders (group_in b.outlined.now).grid) (body_line (plan_in b.outlined.now) (number_in b.outlined.now)) (group_in b.outlined.now).body)
        → IsWide line r → IsFirstOf a p c n g r
    line_of b line r of first is = sym (first ∙ wide_moved b a p c n g of) ∙ by line r is
      where
        by : (line : Option ℕ) (r : Option Flaw) → IsWide line r → line ≡ option_map (λ (f : Flaw). f.line) r
        by None r e = ap (option_map (λ (f : Flaw). f.line)) (sym e)
        by (Some k) r e = ap (option_map (λ (f : Flaw). f.line)) (sym e)

-- the lesser of two flaws is at no later line than either
lesser_lines : (f g : Flaw) → ((lesser f g).line ≤ f.line) × ((lesser f g).line ≤ g.line)
lesser_lines f g = of (is_before g f) refl
  where
    of : (b : Bool) → is_before g f ≡ b → ((if b then g else f).line ≤ f.line) × ((if b then g else f).line ≤ g.line)
    of true e = (grind (arith, nat_tests, e), omega arith)
    of false e = (omega arith, grind (arith, nat_tests, e))

-- a group in memory
pub group_there : (xs : List GroupHeld) (n : ℕ) → n < length xs → (g : Group) × (slice_get (map group_of xs) n ≡ Some g)
group_there [] n less = absurd (omega (arith, less))
group_there (x ∷ xs) zero less = (group_of x, refl)
group_there (x ∷ xs) (suc n) less = group_there xs n (omega (arith, less))

pub same_group : (x : Option Group) (g h : Group) → x ≡ Some g → x ≡ Some h → g ≡ h
same_group x g h e f = let k : Some g ≡ Some h = sym e ∙ f in cc

module _ (a : Algorithm) (p : Plan) (c : Certificate) where
  -- ---- all groups

  -- the numbers of each of the first k groups are small
  abbrev pub NarrowBefore : ℕ → Type 0
  NarrowBefore k = (n : ℕ) (g : Group) → n < k → slice_get p.groups n ≡ Some g → IsNarrow a p c n g

  pub narrow_more : (k : ℕ) (g : Group) → slice_get p.groups k ≡ Some g → (found flaw r : Option Flaw) → MatchOption flaw (IsNarrow a p c k g) (IsFlaw a p c)
      → MatchOption found (NarrowBefore k) (IsFlaw a p c) → r ≡ least found flaw → MatchOption r (NarrowBefore (k + 1)) (IsFlaw a p c)
  narrow_more k g at found flaw r here before is =
      subst (λ (x : Option Flaw). MatchOption x (NarrowBefore (k + 1)) (IsFlaw a p c)) (sym is)
      (match_weaker (least found flaw) (NarrowBefore k × IsNarrow a p c k g) (NarrowBefore (k + 1)) (IsFlaw a p c) (IsFlaw a p c)
      (λ both n h less there. elim (before_or_at n k less) [
        | inl earlier ↦ both.0 n h earlier there
        | inr same ↦
            let own : g ≡ h = same_group (slice_get p.groups k) g h at (subst (λ (j : ℕ). slice_get p.groups j ≡ Some h) same there) in
            subst (λ (j : ℕ). IsNarrow a p c j h) (sym same) (subst (IsNarrow a p c k) own both.1)
      ])
      (λ f told. told)
      (least_told (IsFlaw a p c) found flaw (NarrowBefore k) (IsNarrow a p c k g) before here))

  pub narrow_all : (k : ℕ) (found : Option Flaw) → length p.groups ≤ k → MatchOption found (NarrowBefore k) (IsFlaw a p c) → MatchOption found (AreNarrow a p c) (IsFlaw a p c)
  narrow_all k None all before = λ n g at. let less = slice_get_within p.groups n g at in before n g (omega (arith, less, all)) at
  narrow_all k (Some f) all before = before

  -- of the first k groups the flaw is at no later line than the first of any
  abbrev pub FirstBefore : ℕ → Option Flaw → Type 0
  FirstBefore k flaw =
      (n : ℕ) (g : Group) → n < k → slice_get p.groups n ≡ Some g → (wide : ℕ) → first_told (wide_lines (rules_of a p c n) (grid_binders g.grid) (body_line p n) g.body) ≡ Some wide
      → MatchOption flaw ⊥ (λ f. f.line ≤ wide)

  pub first_more : (k : ℕ) (g : Group) → slice_get p.groups k ≡ Some g → (found flaw r : Option Flaw) → IsFirstOf a p c k g flaw → FirstBefore k found → r ≡ least found flaw →
      FirstBefore (k + 1) r
  first_more k g at found flaw r here before is n h less there wide first =
      subst (λ (x : Option Flaw). MatchOption x ⊥ (λ f. f.line ≤ wide)) (sym is)
      (elim (before_or_at n k less) [
        | inl earlier ↦ of_found found flaw (before n h earlier there wide first)
        | inr same ↦
            (let own : g ≡ h = same_group (slice_get p.groups k) g h at (subst (λ (j : ℕ). slice_get p.groups j ≡ Some h) same there) in
            let theirs : first_told (wide_lines (rules_of a p c k) (grid_binders g.grid) (body_line p k) g.body) ≡ Some wide =
            (λ i. first_told (wide_lines (rules_of a p c (sym same i)) (grid_binders (own i).grid) (body_line p (sym same i)) (own i).body)) ∙ first in
            of_flaw found flaw (sym here ∙ theirs))
      ])
    where
      of_found : (x y : Option Flaw) → MatchOption x ⊥ (λ f. f.line ≤ wide) → MatchOption (least x y) ⊥ (λ f. f.line ≤ wide)
      of_found None y h = absurd h
      of_found (Some f) None h = h
      of_found (Some f) (Some g) h = (let k = (lesser_lines f g).0 in omega (arith, h, k))

      of_flaw : (x y : Option Flaw) → option_map (λ (f : Flaw). f.line) y ≡ Some wide → MatchOption (least x y) ⊥ (λ f. f.line ≤ wide)
      of_flaw x None e = absurd (cc e)
      of_flaw None (Some g) e = (let is : g.line ≡ wide = cc e in omega (arith, is))
      of_flaw (Some f) (Some g) e = (let is : g.line ≡ wide = cc e in let k = (lesser_lines f g).1 in omega (arith, is, k))

  pub first_all : (k : ℕ) (found : Option Flaw) → length p.groups ≤ k → FirstBefore k found → IsFirstOfAll a p c found
  first_all k found all before n g at wide first = (let less = slice_get_within p.groups n g at in before n g (omega (arith, less, all)) at wide first)

  -- ---- what is told

  -- what the first flaw of the lines of groups tells
  pub groups_told : (found : Option Flaw) → told found ≡ first_of (flaws_of_groups a p c) → MatchOption found (flaws_of_groups a p c ≡ []) (IsFlaw a p c)
  groups_told None is = no_flaws (flaws_of_groups a p c) is
  groups_told (Some f) is = inr (inl (sym is))

  -- what the first flaw of a certificate tells
  pub certificate_told : (found : Option Flaw) → told found ≡ first_of (flaws_of_certificate a p c) → MatchOption found (flaws_of_certificate a p c ≡ []) (IsFlaw a p c)
  certificate_told None is = no_flaws (flaws_of_certificate a p c) is
  certificate_told (Some f) is = inr (inr (inr (inr (inl (sym is)))))

  -- the first that is owed is a fault, where no number up to its line may be too large, or a store there leaves its buffer
  owed_is : (f : Flaw) → IsFirstUnmet a p c f → IsNarrowUpTo a p c f.line ⊎ ((number_of f.code ≡ 4) × LeavesBuffer p f.line) → IsFlaw a p c f
  owed_is f h before = inr (inr (inr (inl (record { number = h.number; group = h.group; stands = h.stands; part = h.part; first = ap told h.first; before = before }))))

  -- before the first number that may be too large
  narrow_before : (f : Flaw) (wide : Option Flaw) → IsFirstOfAll a p c wide → MatchOption wide (Unit {0}) (λ w. f.line < w.line) → IsNarrowUpTo a p c f.line
  narrow_before f None all less m h at w first = absurd (all m h at w first)
  narrow_before f (Some v) all less m h at w first = (let k = all m h at w first in omega (arith, k, less))

  -- what is decided by bounds
  pub owed_told : (wide owed r : Option Flaw) → MatchOption wide (AreNarrow a p c) (IsFlaw a p c) → IsFirstOfAll a p c wide → MatchOption owed (AllMet a p c) (IsFirstUnmet a p c) →
      r ≡ wide_or_owed wide owed → MatchOption r (AreShown a p c) (IsFlaw a p c)
  owed_told wide owed r narrow all met is = subst (λ (x : Option Flaw). MatchOption x (AreShown a p c) (IsFlaw a p c)) (sym is) (of wide owed narrow all met)
    where
      of : (wide owed : Option Flaw) → MatchOption wide (AreNarrow a p c) (IsFlaw a p c) → IsFirstOfAll a p c wide → MatchOption owed (AllMet a p c) (IsFirstUnmet a p c) →
          MatchOption (wide_or_owed wide owed) (AreShown a p c) (IsFlaw a p c)
      of None None narrow all met = record { narrow = narrow; met = met }
      of None (Some g) narrow all met = owed_is g met (inl (narrow_before g None all tt))
      of (Some f) None narrow all met = narrow
      of (Some f) (Some g) narrow all met = by (nat_lt g.line f.line) refl
        where
          by : (b : Bool) → nat_lt g.line f.line ≡ b → IsFlaw a p c (if b then g else f)
          by true e = owed_is g met (inl (narrow_before g (Some f) all (grind (arith, nat_tests, e))))
          by false e = narrow

  -- what is owed, where a store leaves its buffer
  pub owed_first : (owed : Option Flaw) (f : Flaw) → MatchOption owed (AllMet a p c) (IsFirstUnmet a p c) → owed ≡ Some f → (number_of f.code ≡ 4) × LeavesBuffer p f.line → IsFlaw a p c f
  owed_first owed f met is leaving = owed_is f (some_of owed (AllMet a p c) (IsFirstUnmet a p c) met f is) (inr leaving)

  -- what is told of the pieces is a fault
  pub pieces_told : (f : Flaw) → IsOfPieces a p c f → IsFlaw a p c f
  pieces_told f (inl shares) = inr (inr (inr (inr (inr (inl shares)))))
  pieces_told f (inr lacking) = inr (inr (inr (inr (inr (inr (inl lacking))))))

  -- what is told of a fetch line before the first broken line of groups is a fault
  pub fetch_told : (broken f : Flaw) → told (Some broken) ≡ first_of (flaws_of_groups a p c) → IsEarlyFetch p broken.line f → IsFlaw a p c f
  fetch_told broken f is early = inr (inr (inr (inr (inr (inr (inr (record {
    code_is = ap number_of early.code_is;
    wrong = early.wrong;
    broken = record { code = number_of broken.code; line = broken.line };
    first = sym is;
    before = early.before;
  })))))))

  pub error_told : (e : SharesError) → AreOfPieces a p c e → IsTold a p c e
  error_told (FlawTold f) h = pieces_told f h
  error_told Memory h = tt

  kept_told : (b : Bool) (g : Flaw) → IsFlaw a p c g → MatchOption (if b then None else Some g) (Unit {0}) (IsFlaw a p c)
  kept_told true g h = tt
  kept_told false g h = h

  with_told : (named : Flaw) (owed : Option Flaw) (M : Type 0) → IsFlaw a p c named → MatchOption owed M (IsFlaw a p c) → IsFlaw a p c (with_owed named owed)
  with_told named None M h k = h
  with_told named (Some g) M h k = lesser_told (IsFlaw a p c) named g h k

  but_told : (owed : Option Flaw) (M : Type 0) → MatchOption owed M (IsFlaw a p c) → MatchOption (but_symbols owed) (Unit {0}) (IsFlaw a p c)
  but_told None M h = tt
  but_told (Some g) M h = kept_told (number_of g.code == 2) g h

  either_way : (b : Bool) (f g : Flaw) → IsFlaw a p c f → IsFlaw a p c g → IsFlaw a p c (if b then f else g)
  either_way true f g h k = h
  either_way false f g h k = k

  first_told_is : (named : Flaw) (owed listed : Option Flaw) (unowned : Bool) (M N : Type 0) → IsFlaw a p c named → MatchOption owed M (IsFlaw a p c) → MatchOption listed N (IsFlaw a p c) →
      IsFlaw a p c (told_first named owed listed unowned)
  first_told_is named owed None unowned M N h k l = with_told named owed M h k
  first_told_is named owed (Some o) unowned M N h k l =
      let kept = but_symbols owed in
      either_way (number_of (with_owed named kept).code == 5 && unowned) named (with_owed named kept) h (with_told named kept (Unit {0}) h (but_told owed M k))

  pub one_told : (named r : Flaw) (owed listed : Option Flaw) (unowned : Bool) (M N : Type 0) → r ≡ told_first named owed listed unowned
      → IsFlaw a p c named → MatchOption owed M (IsFlaw a p c) → MatchOption listed N (IsFlaw a p c) → IsFlaw a p c r
  one_told named r owed listed unowned M N is h k l = subst (IsFlaw a p c) (sym is) (first_told_is named owed listed unowned M N h k l)

  -- where the certificate's lines have no flaw those of regions have none
  pub regions_clear : flaws_of_certificate a p c ≡ [] → flaws_of_regions p c ≡ []
  regions_clear h = first_none (flaws_of_regions p c) (flaws_of_claims a p c) h

-- where the first flaw of some is known they are not none
some_flaws : (fs : List Said) (f : Said) → Some f ≡ first_of fs → ¬ (fs ≡ [])
some_flaws [] f is none = absurd (cc is)
some_flaws (g ∷ fs) f is none = absurd (cc none)

pub none_known : (fs : List Said) (found : Option Flaw) → told found ≡ first_of fs → found ≡ None → fs ≡ []
none_known fs found is none = no_flaws fs (sym (ap told none) ∙ is)

pub first_known : (fs : List Said) (found : Option Flaw) → told found ≡ first_of fs → MatchOption found (fs ≡ []) (λ _. ¬ (fs ≡ []))
first_known fs None is = no_flaws fs is
first_known fs (Some f) is = some_flaws fs (record { code = number_of f.code; line = f.line }) is
