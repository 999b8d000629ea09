-- Which updates are under way inside a group's body: the claims that their nests make are named by its lines.
use Rattle.std.proofs.Common.{◌≡◌, ℕ, ◌+◌, ◌-◌, ◌<◌, ◌≤◌, Bool, true, false, List, [], ◌∷◌, ◌++◌, map, refl, ap, ◌∙◌, subst, sym, arith}
use Rattle.std.specs.Prelude.{if◌then◌else◌, filter, flat_map}
use Rattle.std.specs.List.{AllByRecursion}
use Rattle.bounds.proofs.ListSound.{all-append}
use Rattle.plan.specs.declared.certificate.cert.Claim.{Claim as CodeClaim}
use Rattle.plan.specs.Plan.{Statement, Seq, For, Let, First, Guard, Alloc, Fetch, Store, Publish, Statements, Empty, Then, block}
use Rattle.plan.specs.Lines.{lines, block_lines}
use Rattle.lin.specs.declared.span.Span1.{Span1}
use Rattle.soundness.specs.Claims.{updates}
use Rattle.soundness.specs.Origins.{Outline}
use Rattle.soundness.specs.Obligations.{Updating, Known, Rules, is_member, follows, nests_of, within, onwards, in_block, in_loop, in_guard}
use Rattle.sched.specs.declared.skeleton.Step.{Step}
use Rattle.sched.specs.declared.skeleton.Step.TheVariants.{Turns, Named, Tested}
use Rattle.sched.specs.Runs.{lines_to}
use Rattle.sched.specs.Skeleton.{NestText}
use Rattle.sched.specs.Stored.{FormulaText, StoredText}
use Rattle.sched.specs.Loading.{Loads}
use Rattle.blocks.specs.Bodies.{AreNests}
use Rattle.blocks.specs.Fetches.{FetchText, with_fetches}
use Rattle.completeness.specs.Owed.{EachLine, EachOf}
use Rattle.completeness.proofs.FetchClaims.{all_members}
use Rattle.completeness.proofs.NestWalk.{as_store}

-- ---- no statement of a block is without lines

abbrev mutual
  pub HasLines : Statement → Type 0
  HasLines (Seq all) = AllHaveLines all
  HasLines (For i x kind body) = HasLines body
  HasLines (First i a b) = HasLines a × HasLines b
  HasLines (Guard low high body) = HasLines body
  HasLines _ = Unit {0}

  pub AllHaveLines : Statements → Type 0
  AllHaveLines Empty = Unit {0}
  AllHaveLines (Then a rest) = (1 ≤ lines a) × HasLines a × AllHaveLines rest

joined_lines : (xs ys : List Statement) → AllHaveLines (block xs) → AllHaveLines (block ys) → AllHaveLines (block (xs ++ ys))
joined_lines [] ys h k = k
joined_lines (x ∷ xs) ys h k = (h.0, h.1, joined_lines xs ys h.2 k)

steps_lines : (ts : List Step) (inner : Statements) → AllHaveLines inner → AllHaveLines (lines_to ts inner)
steps_lines [] inner h = h
steps_lines (Turns i x kind ∷ ts) inner h = (omega arith, steps_lines ts inner h, tt)
steps_lines (Named i pick forms ∷ ts) inner h = (omega arith, tt, steps_lines ts inner h)
steps_lines (Tested low high ∷ ts) inner h = (omega arith, steps_lines ts inner h, tt)

fetches_lines : (fs : List FetchText) (rest : List Statement) → AllHaveLines (block rest) → AllHaveLines (block (with_fetches fs rest))
fetches_lines [] rest h = h
fetches_lines (f ∷ fs) rest h = (omega arith, tt, (omega arith, tt, fetches_lines fs rest h))

nests_lines : (g : StoredText) (fs : List FormulaText) (r : List Span1) (ms : Loads) (m at_line d : ℕ) (ns : List NestText) (xs : List Statement) (cs : List CodeClaim) →
    AreNests g fs r ms m at_line d ns xs cs → (c : ℕ) → AllHaveLines (block (xs ++ Publish c ∷ []))
nests_lines g fs r ms m at_line d [] xs cs is c = subst (λ (ys : List Statement). AllHaveLines (block (ys ++ Publish c ∷ []))) (sym is.0) (omega arith, tt, tt)
nests_lines g fs r ms m at_line d (n ∷ ns) xs [] is c = absurd is
nests_lines g fs r ms m at_line d (n ∷ ns) xs (v ∷ cs) is c =
    let nest = is.here.nest in
    let s = as_store g fs ms d n nest.store nest.stores in
    let one : AllHaveLines (Then nest.store Empty) = subst (λ (a : Statement). AllHaveLines (Then a Empty)) (sym s.is) (omega arith, tt, tt) in
    let first : AllHaveLines (block is.first) = subst AllHaveLines (sym nest.comes) (steps_lines n.steps (Then nest.store Empty) one) in
    let rest = nests_lines g fs r (ms ++ (g.subject.name, m) ∷ []) (m + 1) (at_line + block_lines (block is.first)) (d + 1) ns is.others cs is.behind c in
    subst (λ (ys : List Statement). AllHaveLines (block ys)) (sym (ap (λ (ys : List Statement). ys ++ Publish c ∷ []) is.are ∙ twice is.first is.others (Publish c ∷ [])))
    (joined_lines is.first (is.others ++ Publish c ∷ []) first rest)
  where
    twice : (xs ys zs : List Statement) → (xs ++ ys) ++ zs ≡ xs ++ (ys ++ zs)
    twice [] ys zs = refl
    twice (a ∷ xs) ys zs = ap (λ (r : List Statement). a ∷ r) (twice xs ys zs)

pub body_has_lines : (g : StoredText) (fs : List FormulaText) (r : List Span1) (ms : Loads) (m at_line d : ℕ) (ns : List NestText) (xs : List Statement) (cs : List CodeClaim) →
    AreNests g fs r ms m at_line d ns xs cs → (c : ℕ) (head : List Step) (alloc : Statement) → 1 ≤ lines alloc → HasLines alloc → (fetches : List FetchText) →
    HasLines (Seq (lines_to head (block (alloc ∷ with_fetches fetches (xs ++ Publish c ∷ [])))))
body_has_lines g fs r ms m at_line d ns xs cs is c head alloc some inner fetches =
    steps_lines head (block (alloc ∷ with_fetches fetches (xs ++ Publish c ∷ []))) (some, inner, fetches_lines fetches (xs ++ Publish c ∷ []) (nests_lines g fs r ms m at_line d ns xs cs is c))

-- ---- updates under way

all_kept : {A : Type 0} (P : A → Type 0) (f : A → Bool) (xs : List A) → AllByRecursion P xs → AllByRecursion P (filter f xs)
all_kept P f [] h = tt
all_kept P f (x ∷ xs) h = of (f x) (all_kept P f xs h.1)
  where
    of : (b : Bool) → AllByRecursion P (filter f xs) → AllByRecursion P (if b then x ∷ filter f xs else filter f xs)
    of true k = (h.0, k)
    of false k = k

module _ (P : ℕ → Type 0) (before : ℕ → List ℕ) where
  abbrev from : ℕ → List ℕ → List Updating
  from c ds = map (λ d. record { before = d; next = c }) ds

  all_from : (c : ℕ) (ds : List ℕ) → P c → AllByRecursion (λ u. P u.next) (from c ds)
  all_from c [] h = tt
  all_from c (d ∷ ds) h = (h, all_from c ds h)

  all_flat : (cs : List ℕ) → AllByRecursion P cs → AllByRecursion (λ u. P u.next) (flat_map (λ c. from c (before c)) cs)
  all_flat [] h = tt
  all_flat (c ∷ cs) h = all-append (λ u. P u.next) (from c (before c)) (flat_map (λ c. from c (before c)) cs) (all_from c (before c) h.0) (all_flat cs h.1)

module _ (O : Outline) (R : Rules) (begin end : ℕ) where
  -- the claim is named by one of these lines
  abbrev pub NamedIn : ℕ → Type 0
  NamedIn c = (at : ℕ) × (is_member c (O.named at) ≡ true) × (begin ≤ at) × (at < end)

  abbrev pub AllNamed : Statement → ℕ → Known → Type 0
  AllNamed s line known = AllByRecursion (λ u. NamedIn u.next) known.updating

  more : (a : Statement) (line : ℕ) → begin ≤ line → 1 ≤ lines a → line + lines a ≤ end → (known : Known) → AllByRecursion (λ u. NamedIn u.next) known.updating →
      AllByRecursion (λ u. NamedIn u.next) (within O R a (O.named (line + lines a - 1)) known).updating
  more a line low some high known h =
      let last : ℕ = line + lines a - 1 in
      let at_last : AllByRecursion NamedIn (O.named last) = all_members NamedIn (O.named last) (λ c m. (last, m, omega (arith, low, some), omega (arith, some, high))) in
      let kept = all_kept NamedIn (λ c. updates O.setting a (O.claim c).buffer (O.claim c).function) (O.named last) at_last in
      all-append (λ u. NamedIn u.next) (nests_of O R a (O.named last) known.own) known.updating
      (all_flat NamedIn (λ c. filter (λ d. follows O R d c) known.own) (filter (λ c. updates O.setting a (O.claim c).buffer (O.claim c).function) (O.named last)) kept) h

  mutual
    pub each_named : (s : Statement) (line : ℕ) (known : Known) → AllByRecursion (λ u. NamedIn u.next) known.updating → HasLines s → begin ≤ line → line + lines s ≤ end →
        EachLine O R AllNamed s line known
    each_named (Seq all) line known h full low high = all_named all line (in_block O R known) h full low high
    each_named (For i x kind body) line known h full low high = each_named body (line + 1) (in_loop O R i x body known) h full (omega (arith, low)) (omega (arith, high))
    each_named (Let i pick forms) line known h full low high = h
    each_named (First i a b) line known h full low high = (
      each_named a (line + 1) (in_block O R known) h full.0 (omega (arith, low)) (omega (arith, high)),
      each_named b (line + 2 + lines a) (in_block O R known) h full.1 (omega (arith, low)) (omega (arith, high)),
    )
    each_named (Guard l u body) line known h full low high = each_named body (line + 1) (in_guard O R l u known) h full (omega (arith, low)) (omega (arith, high))
    each_named (Alloc b x seats) line known h full low high = h
    each_named (Fetch b x region) line known h full low high = h
    each_named (Store b k at e) line known h full low high = h
    each_named (Publish c) line known h full low high = h

    all_named : (all : Statements) (line : ℕ) (known : Known) → AllByRecursion (λ u. NamedIn u.next) known.updating → AllHaveLines all → begin ≤ line → line + block_lines all ≤ end →
        EachOf O R AllNamed all line known
    all_named Empty line known h full low high = tt
    all_named (Then a rest) line known h full low high =
        let some = full.0 in
        let next = O.named (line + lines a - 1) in (
          each_named a line (within O R a next known) (more a line low full.0 (omega (arith, high)) known h) full.1 low (omega (arith, high)),
          all_named rest (line + lines a) (onwards O R a next known) h full.2 (omega (arith, low)) (omega (arith, high)),
        )
