-- Plans in plain form, and that they are accepted.
use Rattle.std.specs.Prelude.{◌≡◌, ℕ, zero, suc, ◌+◌, ◌-◌, ◌⊎◌, Bool, true, false, List, [], ◌∷◌, ◌++◌, map, take, drop, Some, slice_get}
use Rattle.std.specs.List.{AllByRecursion, list_any, list_all}
use Rattle.tree.specs.Term.{Term}
use Rattle.tree.specs.Uses.{EachCall}
use Rattle.lin.specs.declared.span.Span1.{Span1}
use Rattle.meaning.specs.Algorithm.{Algorithm}
use Rattle.plan.specs.declared.stmt.Kind.TheVariants.{Serial}
use Rattle.plan.specs.declared.stmt.Places.{Places}
use Rattle.plan.specs.Plan.{Index, At, Found, Coordinate, Statement, Seq, For, Let, First, Guard, Alloc, Fetch, Store, Publish, Statements, Empty, Then, Group, Plan}
use Rattle.plan.specs.Lines.{lines, body_line}
use Rattle.plan.specs.Certificate.Certificate.{Claim, Certificate}
use Rattle.plan.specs.Certificate.Cells.{Piece, pieces}
use Rattle.plan.specs.Semantics.Run.{Source, Input, ByClaim, Unknown}
use Rattle.soundness.specs.Claims.{In}
use Rattle.soundness.specs.Given.{outline_of}
use Rattle.soundness.specs.Obligations.{Binder, Updating, Known, Rules, places_of, is_free, is_usable, has_symbol, follows, serves, may_load, met, intervals, variable_span, target_span, within, in_block, in_loop, onwards, obligations}
use Rattle.soundness.specs.Origins.{Outline}
use Rattle.soundness.specs.Shown.{is_within, are_within, are_seated, all_shown, start}
use Rattle.soundness.specs.Nests.Laws.{domains_of}
use Rattle.soundness.specs.Nests.Nest.{Loop, nest_of}
use Rattle.soundness.specs.Nests.Plain.{SaysSame, is_small, is_straight, IsPlainNest, IsPlainFetch, IsPlainUpdate}
use Rattle.tails.specs.Windows.Nests.{slid_nests}
use Rattle.headline.specs.Numbers.{is_cell}
use Rattle.headline.specs.Theorem.{HasSoundCells}
use Rattle.headline.specs.Work.{cells_fetched, work_of}
use Rattle.rules.specs.Widths.Widths.{wide_lines}
use Rattle.soundness.specs.Binders.View.{grid_binders}
use Rattle.audit.specs.Verdict.Shown.Wide.{HasHead, HasOutput, HasLines, Accepts}

-- span by span: the same one, of forms within the limits, or one that is shown to lie inside the other
abbrev pub AreInside : Rules → List Binder → List Span1 → List Span1 → Type 0
AreInside rules bs [] [] = Unit {0}
AreInside rules bs (x ∷ xs) (y ∷ ys) = (((x ≡ y) × (is_small x ≡ true)) ⊎ (is_within rules bs x y ≡ true)) × AreInside rules bs xs ys
AreInside rules bs _ _ = ⊥

-- the variables of a store: the function's, then the reduction's
abbrev pub names_of : List Coordinate → List Coordinate → List (List ℕ)
names_of at over = map (λ c. c.variable) (at ++ over)

module _ (outline : Outline) (rules : Rules) where
  -- the span of each on the left side
  abbrev pub left_spans : List Coordinate → List Coordinate → List Span1
  left_spans at over = map (variable_span outline rules) (at ++ over)

  -- the span of each coordinate of the place that is written
  abbrev pub places_written : Known → List Coordinate → List Coordinate → List Span1
  places_written known at over = map (target_span outline rules known (names_of at over) (left_spans at over)) at

module _ (rules : Rules) (a : Algorithm) (outline : Outline) where
  -- a claim in a buffer of these places that a nest of the pure definition makes
  pub record IsOfNest (bs : List Binder) (places : List Places) (b : Statement) (claim : Claim) : Type 0 where
    pub loops : List Loop
    pub buffer : ℕ
    pub at : List Coordinate
    pub value : Term
    pub nest : nest_of b claim.buffer ≡ Some (record { loops = loops; line = Store buffer 0 at value })
    pub plain : IsPlainNest outline.setting rules (domains_of a) bs claim places loops buffer at

  -- a claim that a fetch makes
  pub record IsOfFetch (bs : List Binder) (places : List Places) (b : Statement) (claim : Claim) : Type 0 where
    pub buffer : ℕ
    pub group : ℕ
    pub region : List Span1
    pub nest : nest_of b claim.buffer ≡ Some (record { loops = []; line = Fetch buffer group region })
    pub plain : IsPlainFetch outline.setting rules (domains_of a) bs claim places group region

  -- a claim that an update's nest makes of one of the definition before, inside the region of which it lies
  pub record IsOfUpdate (known : Known) (b : Statement) (c : ℕ) : Type 0 where
    pub loops : List Loop
    pub buffer : ℕ
    pub update : ℕ
    pub at : List Coordinate
    pub value : Term
    pub nest : nest_of b (outline.claim c).buffer ≡ Some (record { loops = loops; line = Store buffer (suc update) at value })
    pub plain : IsPlainUpdate outline.setting rules (domains_of a) known.binders (outline.claim c) loops buffer update at
    pub before : list_any (λ d. follows outline rules d c) known.own ≡ true
    pub inside : (d : ℕ) → In d known.own → follows outline rules d c ≡ true → AreInside rules known.binders (outline.claim c).region (outline.claim d).region

  -- a claim of a buffer in scope that the statement makes in plain form
  pub record IsPlainClaim (known : Known) (b : Statement) (c : ℕ) : Type 0 where
    pub places : List Places
    pub stand : places_of known.buffers (outline.claim c).buffer ≡ Some places
    pub made : IsOfNest known.binders places b (outline.claim c) ⊎ (IsOfFetch known.binders places b (outline.claim c) ⊎ IsOfUpdate known b c)

  -- the points of these spans are shown to have places in a buffer that is in scope
  pub record HasPlaces (known : Known) (b : ℕ) (xs : List Span1) : Type 0 where
    pub places : List Places
    pub stand : places_of known.buffers b ≡ Some places
    pub seated : are_seated rules known.binders xs places ≡ true

  -- a load by a claim at the points of these spans: the claim may be used there, and they are shown to lie in its buffer and in its
  -- region; where an update calls its own function they also lie where its step does
  pub record IsClaimed (known : Known) (may : ℕ → Bool) (meets : ℕ → List (List Span1)) (xs : List Span1) (c : ℕ) : Type 0 where
    pub used : may c ≡ true
    pub stored : HasPlaces known (outline.claim c).buffer xs
    pub inside : are_within rules known.binders xs (outline.claim c).region ≡ true
    pub met : AllByRecursion (λ ys. are_within rules known.binders xs ys ≡ true) (meets c)

  -- a load of the input is shown to lie on its extents
  abbrev pub IsReadable : Known → (ℕ → Bool) → (ℕ → List (List Span1)) → List Span1 → Source → Type 0
  IsReadable known may meets xs Input = are_within rules known.binders xs rules.extents ≡ true
  IsReadable known may meets xs (ByClaim c) = IsClaimed known may meets xs c
  IsReadable known may meets xs Unknown = ⊥

  -- so does each load of an expression, where the variables have these names and spans
  abbrev pub AreReadable : Known → (ℕ → Bool) → (ℕ → List (List Span1)) → List (List ℕ) → List Span1 → Term → Type 0
  AreReadable known may meets names vars e = EachCall (λ name at. IsReadable known may meets (intervals outline rules known.binders names vars at) (outline.source name)) e

  -- a form loads nothing, and an index that is found reads as an expression does
  abbrev pub IsIndexReadable : Known → (ℕ → Bool) → (ℕ → List (List Span1)) → List (List ℕ) → List Span1 → Index → Type 0
  IsIndexReadable known may meets names vars (At l) = Unit {0}
  IsIndexReadable known may meets names vars (Found e) = AreReadable known may meets names vars e

  -- an update is one of a nest under way, and its place lies in the region of the claim that the nest makes
  abbrev pub IsUnderWay : Known → ℕ → List ℕ → ℕ → List Span1 → Type 0
  IsUnderWay known b f zero places = Unit {0}
  IsUnderWay known b f (suc k) places =
      (list_any (serves outline rules b f (suc k)) known.updating ≡ true)
      × ((u : Updating) → In u known.updating → serves outline rules b f (suc k) u ≡ true → are_within rules known.binders places (outline.claim u.next).region ≡ true)

  -- a store of definition k of f in buffer b: its place lies in the buffer, and what it loads may be read
  pub record IsPlainStore (known : Known) (b : ℕ) (f : List ℕ) (k : ℕ) (at over : List Coordinate) (e : Term) : Type 0 where
    pub stored : HasPlaces known b (places_written outline rules known at over)
    pub updated : IsUnderWay known b f k (places_written outline rules known at over)
    pub left : AllByRecursion (λ c. IsIndexReadable known (may_load outline rules known b f k) (met outline rules f k at) (names_of at over) (left_spans outline rules at over) c.index) at
    pub right : AreReadable known (may_load outline rules known b f k) (met outline rules f k at) (names_of at over) (places_written outline rules known at over ++ map (variable_span outline rules) over) e

  -- a claim in force of the last definition, in whose region the own cells are shown to lie
  pub record IsPlainPublish (known : Known) (c : ℕ) : Type 0 where
    pub used : is_usable outline rules known c ≡ true
    pub inside : are_within rules known.binders rules.own (outline.claim c).region ≡ true

  -- Serial loops over new symbols, buffers that are not folded, and lines whose accesses are shown to lie where they may; each claim
  -- of a statement is one that it makes in plain form. `line` is where the statement begins, and `known` is what is known there.
  abbrev mutual
    pub IsPlain : Statement → (line : ℕ) (known : Known) → Type 0
    IsPlain (Seq all) line known = IsPlainBlock all line (in_block outline rules known)
    IsPlain (For i x kind body) line known = (kind ≡ Serial) × (has_symbol outline rules i x known ≡ false) × IsPlain body (line + 1) (in_loop outline rules i x body known)
    IsPlain (Let i pick forms) line known = ⊥
    IsPlain (First i b c) line known = ⊥
    IsPlain (Guard low high body) line known = ⊥
    IsPlain (Alloc b f places) line known = (is_free (places_of known.buffers b) ≡ true) × (list_all is_straight places ≡ true)
    IsPlain (Fetch b g region) line known = HasPlaces known b region
    IsPlain (Store b k at e) line known =
        let n = outline.setting.dimensions b in IsPlainStore known b (outline.setting.buffer_function b) k (take n at) (drop n at) e
    IsPlain (Publish c) line known = IsPlainPublish known c

    -- the statements of a block, each with its claims
    pub IsPlainBlock : Statements → (line : ℕ) (known : Known) → Type 0
    IsPlainBlock Empty line known = Unit {0}
    IsPlainBlock (Then b rest) line known =
        let last = line + lines b - 1 in
        IsPlain b line (within outline rules b (outline.named last) known) × ((c : ℕ) → In c (outline.named last) → IsPlainClaim known b c)
        × IsPlainBlock rest (line + lines b) (onwards outline rules b (outline.named last) known)

-- of a plain statement all obligations are shown where there are no windows, by rules that show each form within the limits to be at
-- most itself
abbrev pub PlainIsShown : Type 0
PlainIsShown =
    (rules : Rules) (a : Algorithm) (outline : Outline) → SaysSame rules → outline.windows ≡ [] → (b : Statement) (line : ℕ) (known : Known) →
    IsPlain rules a outline b line known → all_shown rules (slid_nests outline rules (domains_of a)) (obligations outline rules b line known) ≡ true

-- a plain plan: without windows, each group's lines in plain form, and whatever else is asked, which is exact
pub record IsPlainPlan (rules : ℕ → Rules) (a : Algorithm) (p : Plan) (c : Certificate) : Type 0 where
  pub head : HasHead a p
  pub lines : (n : ℕ) (g : Group) → slice_get p.groups n ≡ Some g → HasLines a p c n g
  pub plain : (n : ℕ) (g : Group) → slice_get p.groups n ≡ Some g → IsPlain (rules n) a (outline_of p c n g) g.body (body_line p n) (start (grid_binders g.grid))
  pub windows : c.windows ≡ []
  -- each coordinate of a store is shown to be an i32, and each loop's symbol to be a small number
  pub numbers : (n : ℕ) (g : Group) → slice_get p.groups n ≡ Some g → wide_lines (rules n) (grid_binders g.grid) (body_line p n) g.body ≡ []
  pub cells : (j : ℕ) (x : Piece) → slice_get (pieces p) j ≡ Some x → AllByRecursion (λ y. is_cell p y ≡ true) (cells_fetched p x)
  pub lists : HasSoundCells (work_of a p c [])
  pub output : HasOutput a p

-- each plain plan is accepted
abbrev pub PlainIsAccepted : Type 0
PlainIsAccepted = (rules : ℕ → Rules) (a : Algorithm) (p : Plan) (c : Certificate) → ((n : ℕ) → SaysSame (rules n)) → IsPlainPlan rules a p c → Accepts rules a p c
