-- The whole skeleton of a function: the piece, and the turns of its loops, at which each loop's number is what its name stands for.
use Rattle.std.proofs.Common.{◌≡◌, ℕ, zero, suc, ◌+◌, ◌<◌, ◌≤◌, Bool, true, false, List, [], ◌∷◌, ◌++◌, length, map, reverse, slice_get, Option, Some, None, refl, sym, ap, ◌∙◌, subst, inl, inr, arith}
use Rattle.std.specs.Prelude.{ℤ, pos, negsuc, ◌+ℤ◌, ◌-ℤ◌, ◌≤ℤ◌, filter, if◌then◌else◌}
use Rattle.std.specs.List.{AllByRecursion}
use Rattle.std.proofs.lemmas.Int.{ints}
use Rattle.std.proofs.lemmas.List.{reverse-append}
use Rattle.lin.specs.Forms.{Form}
use Rattle.lin.proofs.TermLemmas.{all_weaker, filter-all}
use Rattle.plan.specs.Symbols.{Symbols, clipped}
use Rattle.plan.specs.Certificate.Cells.{grid_value, grid_symbols}
use Rattle.meaning.specs.Names.{same_name}
use Rattle.meaning.proofs.Cases.{name_same}
use Rattle.sched.specs.declared.schedule.Split.{Split}
use Rattle.sched.specs.declared.placing.Loop.{Loop}
use Rattle.sched.specs.declared.numbers.Extent.{Extent}
use Rattle.sched.specs.declared.numbers.Numbers.{Numbers}
use Rattle.sched.specs.declared.skeleton.Step.{Step}
use Rattle.sched.specs.declared.skeleton.Known.{Known}
use Rattle.sched.specs.declared.skeleton.Within.TheVariants as within
use Rattle.sched.specs.declared.nest.Turning.{Turning}
use Rattle.sched.specs.Placing.{PlacedText, is_parallel, is_vectorized}
use Rattle.sched.specs.Numbers.{numbers_named, last_number, loop_numbers, parallel_loops, grid_counts, or_one, piece_counts}
use Rattle.sched.specs.Standing.{◌>>=◌, StandingText, form_named, counted_from, cuts_of, cuts_by_variable, settle_some}
use Rattle.sched.specs.Skeleton.{BodyText, NestText, SkeletonText, is_missing, kept_from, is_same, is_in_nest, loop_turning, nest_loops, nest_turns, inside, enter, leave, turn, turn_all, variables_at, ranges_at, begun, nest_of, nests_in, grid_forms, over_grid, skeleton_in}
use Rattle.sched.specs.Visits.{IsInGrid, IsMet, AreMet, IsVisited}
use Rattle.sched.proofs.Leading.{In, in_left, in_right, Leads, leads_on, arrives_at}
use Rattle.sched.proofs.Told.{IsTold, told_counted}
use Rattle.sched.proofs.Standings.{Stands, found_all}
use Rattle.sched.proofs.Passing.{IsCut, IsClosed, Moved, moved_on, agrees_on}
use Rattle.sched.proofs.Closing.{AreOrdered, settle_more, settle_rises, closes}
use Rattle.sched.proofs.Looping.{OnGround, ground_moves, InNest, Turned, IsRun, turns_move}
use Rattle.sched.proofs.Rooting.{all_both, all_at, all_reverse, reverse_all, among_first, IsAlong, AreApart, all_by_variable, ordered_by_variable, HaveDimensions, kept_rise, IsHeld, AreHeld, names_stand}

-- ---- lists

pub in_reverse : {A : Type 0} (x : A) (xs : List A) → In x xs → In x (reverse xs)
in_reverse x [] m = absurd m
in_reverse x (y ∷ ys) m = subst (In x) (sym (reverse-append (y ∷ []) ys)) (of m (λ k. in_reverse x ys k))
  where
    of : In x (y ∷ ys) → (In x ys → In x (reverse ys)) → In x (reverse ys ++ y ∷ [])
    of (inl e) rest = in_right x (reverse ys) (y ∷ []) (inl e)
    of (inr k) rest = in_left x (reverse ys) (y ∷ []) (rest k)

in_filter : {A : Type 0} (test : A → Bool) (x : A) (xs : List A) → In x xs → test x ≡ true → In x (filter test xs)
in_filter test x [] m e = absurd m
in_filter test x (y ∷ ys) (inl same) e = subst (λ v. In x (if v then y ∷ filter test ys else filter test ys)) (sym (ap test (sym same) ∙ e)) (inl same)
in_filter test x (y ∷ ys) (inr m) e = of (test y) (in_filter test x ys m e)
  where
    of : (v : Bool) → In x (filter test ys) → In x (if v then y ∷ filter test ys else filter test ys)
    of true k = inr k
    of false k = k

in_map : {A B : Type 0} (f : A → B) (x : A) (xs : List A) → In x xs → In (f x) (map f xs)
in_map f x [] m = absurd m
in_map f x (y ∷ ys) (inl e) = inl (ap f e)
in_map f x (y ∷ ys) (inr m) = inr (in_map f x ys m)

all_map : {A B : Type 0} (P : B → Type 0) (f : A → B) (xs : List A) → AllByRecursion (λ x. P (f x)) xs → AllByRecursion P (map f xs)
all_map P f [] a = tt
all_map P f (x ∷ xs) a = (a.0, all_map P f xs a.1)

all_of_map : {A B : Type 0} (P : B → Type 0) (f : A → B) (xs : List A) → AllByRecursion P (map f xs) → AllByRecursion (λ x. P (f x)) xs
all_of_map P f [] a = tt
all_of_map P f (x ∷ xs) a = (a.0, all_of_map P f xs a.1)

-- ---- what stands for what

-- the loop's name stands for one of its numbers, and has its dimension
pub record IsLoopOf (rs : List Numbers) (w : List ℕ → ℤ) (dim : List ℕ → ℕ) (l : Loop) : Type 0 where
  pub dimension : l.dimension ≡ dim l.name
  pub low : (numbers_named rs l.name).low ≤ℤ w l.name
  pub last : w l.name ≤ℤ last_number (numbers_named rs l.name)

-- numbers for all names: loops run over theirs, and those of splits fit each other
pub record IsLaidOut (xs : List (List ℕ)) (p : PlacedText) (rs : List Numbers) (w b : List ℕ → ℤ) (dim : List ℕ → ℕ) : Type 0 where
  pub cuts : AllByRecursion (IsCut rs w b) p.cuts
  pub apart : AreApart p.cuts
  pub along : AllByRecursion (IsAlong dim) p.cuts
  pub held : AreHeld p.loops p.cuts
  pub variables : AllByRecursion (IsHeld p.loops p.cuts) xs
  pub loops : AllByRecursion (IsLoopOf rs w dim) p.loops
  pub dimensions : HaveDimensions dim 0 xs

-- the names stand for these numbers
abbrev pub Gives : (List ℕ → ℤ) → List (List ℕ) → List ℤ → Type 0
Gives w [] [] = Unit {0}
Gives w [] (z ∷ zs) = ⊥
Gives w (x ∷ xs) [] = ⊥
Gives w (x ∷ xs) (z ∷ zs) = (w x ≡ z) × Gives w xs zs

-- ---- the grid

clipped_is : (z : ℤ) → pos 0 ≤ℤ z → pos (clipped z) ≡ z
clipped_is (pos n) h = refl
clipped_is (negsuc n) h = absurd (omega (arith, ints, h))

abbrev turn_number : List Numbers → (List ℕ → ℤ) → Loop → ℕ
turn_number rs w l = clipped (w l.name -ℤ (numbers_named rs l.name).low)

abbrev or_zero : List ℕ → List ℕ
or_zero [] = 0 ∷ []
or_zero (n ∷ ns) = n ∷ ns

abbrev pub piece_of : List Numbers → (List ℕ → ℤ) → List Loop → List ℕ
piece_of rs w ls = or_zero (map (turn_number rs w) ls)

module _ (rs : List Numbers) (w : List ℕ → ℤ) (dim : List ℕ → ℕ) where
  turn_value : (l : Loop) → IsLoopOf rs w dim l → ((numbers_named rs l.name).low +ℤ pos (turn_number rs w l)) ≡ w l.name
  turn_value l h =
      let low = h.low in
      let k = clipped_is (w l.name -ℤ (numbers_named rs l.name).low) (omega (arith, ints, low)) in
      omega (arith, ints, k)

  turn_below : (l : Loop) → IsLoopOf rs w dim l → turn_number rs w l < (numbers_named rs l.name).count
  turn_below l h = let k = turn_value l h in let last = h.last in omega (arith, ints, k, last)

  in_counts : (ls : List Loop) → AllByRecursion (IsLoopOf rs w dim) ls → IsInGrid (grid_counts rs ls) (map (turn_number rs w) ls)
  in_counts [] a = tt
  in_counts (l ∷ ls) a = (turn_below l a.0, in_counts ls a.1)

  pub in_grid : (ls : List Loop) → AllByRecursion (IsLoopOf rs w dim) ls → IsInGrid (or_one (grid_counts rs ls)) (piece_of rs w ls)
  in_grid [] a = (omega arith, tt)
  in_grid (l ∷ ls) a = in_counts (l ∷ ls) a

  -- each parallel loop's symbol gives its number
  told_from : (g : List ℕ) (n s : ℕ) (ls : List Loop) → AllByRecursion (IsLoopOf rs w dim) ls → ((i : ℕ) → grid_value g (s + i) ≡ grid_value (map (turn_number rs w) ls) i) → s + length ls ≤ n →
      AllByRecursion (λ k. IsTold n (grid_symbols g) (w k.name) k.form) (grid_forms rs s ls)
  told_from g n s [] a h le = tt
  told_from g n s (l ∷ ls) a h le =
      let here : s ≡ s + 0 = omega arith in
      let value : grid_value g s ≡ pos (turn_number rs w l) = ap (grid_value g) here ∙ h 0 in
      let whole = turn_value l a.0 in (
        told_counted n s (grid_symbols g) (numbers_named rs l.name).low (w l.name) (omega (arith, le)) (omega (arith, ints, value, whole)),
        told_from g n (s + 1) ls a.1 (λ i. let next : s + 1 + i ≡ s + suc i = omega arith in ap (grid_value g) next ∙ h (suc i)) (omega (arith, le)),
      )

  many : (ls : List Loop) → length ls ≤ length (or_one (grid_counts rs ls))
  many [] = omega arith
  many (l ∷ ls) = longer ls
    where
      longer : (ls : List Loop) → suc (length ls) ≤ suc (length (grid_counts rs ls))
      longer [] = omega arith
      longer (m ∷ ms) = let k = longer ms in omega (arith, k)

  some : (ns : List ℕ) → 0 < length (or_one ns)
  some [] = omega arith
  some (n ∷ ns) = omega arith

  told_all : (ls : List Loop) → AllByRecursion (IsLoopOf rs w dim) ls →
      AllByRecursion (λ k. IsTold (length (or_one (grid_counts rs ls))) (grid_symbols (piece_of rs w ls)) (w k.name) k.form) (grid_forms rs 0 ls)
  told_all [] a = tt
  told_all (l ∷ ls) a =
      told_from (piece_of rs w (l ∷ ls)) (length (or_one (grid_counts rs (l ∷ ls)))) 0 (l ∷ ls) a
      (λ i. let same : 0 + i ≡ i = omega arith in ap (grid_value (piece_of rs w (l ∷ ls))) same) (let k = many (l ∷ ls) in omega (arith, k))

  pub on_grid : (b : List ℕ → ℤ) (p : PlacedText) → AllByRecursion (IsLoopOf rs w dim) p.loops → OnGround w b (over_grid rs p) (grid_symbols (piece_of rs w (parallel_loops p.loops)))
  on_grid b p a = record {
    agrees = record { known = told_all (parallel_loops p.loops) (filter-all (IsLoopOf rs w dim) is_parallel p.loops a); starts = tt };
    bound = refl;
    some = some (grid_counts rs (parallel_loops p.loops));
    limits = tt;
  }

  -- each parallel loop stands
  pub grid_stands : (l : Loop) (s : ℕ) (ls : List Loop) → In l ls → Stands (grid_forms rs s ls) l.name
  grid_stands l s [] m = absurd m
  grid_stands l s (x ∷ ls) m = of (same_name x.name l.name) refl m (λ k. grid_stands l (s + 1) ls k)
    where
      of : (v : Bool) → same_name x.name l.name ≡ v → In l (x ∷ ls) → (In l ls → Stands (grid_forms rs (s + 1) ls) l.name) → Stands (grid_forms rs s (x ∷ ls)) l.name
      of true e k rest = (counted_from (numbers_named rs x.name).low s, rw e refl)
      of false e (inl same) rest = absurd (let k : same_name x.name l.name ≡ true = name_same x.name l.name (ap (λ (y : Loop). y.name) (sym same)) in let no : true ≡ false = sym k ∙ e in cc no)
      of false e (inr k) rest = let r = rest k in (r.0, rw e r.1)

-- ---- symbols are numbered on

module _ (rs : List Numbers) (cs : List Split) where
  some_text : (a b : StandingText) → Some a ≡ Some b → a ≡ b
  some_text a b e = cc

  pub turn_rises : (t : Turning) (st new : StandingText) → turn rs cs t st ≡ Some new → st.next ≤ new.next
  turn_rises t st new e = of (settle_some (inside t.kind) rs cs cs (enter t.name st)) refl e
    where
      of : (o : Option StandingText) → settle_some (inside t.kind) rs cs cs (enter t.name st) ≡ o → (o >>= λ turned. Some (leave st.steps st.next t turned)) ≡ Some new → st.next ≤ new.next
      of None k e = absurd (cc e)
      of (Some turned) k e =
          let rises = settle_rises (inside t.kind) rs cs cs (enter t.name st) turned k in
          subst (λ (a : StandingText). st.next ≤ a.next) (some_text (leave st.steps st.next t turned) new e) (omega (arith, rises))

  pub turns_rise : (ts : List Turning) (st new : StandingText) → turn_all rs cs ts st ≡ Some new → st.next ≤ new.next
  turns_rise [] st new e = subst (λ (a : StandingText). st.next ≤ a.next) (some_text st new e) (omega arith)
  turns_rise (t ∷ ts) st new e = of (turn rs cs t st) refl e (λ mid k. turns_rise ts mid new k)
    where
      of : (o : Option StandingText) → turn rs cs t st ≡ o → (o >>= turn_all rs cs ts) ≡ Some new → ((mid : StandingText) → turn_all rs cs ts mid ≡ Some new → mid.next ≤ new.next) → st.next ≤ new.next
      of None k e rest = absurd (cc e)
      of (Some mid) k e rest = let a = turn_rises t st mid k in let b = rest mid e in omega (arith, a, b)

-- ---- nests

-- a nest, made of what stands over the grid
pub record IsNestOf (xs : List (List ℕ)) (p : PlacedText) (rs : List Numbers) (head : StandingText) (nests : List NestText) (number : ℕ) (b : BodyText) : Type 0 where
  pub from : ℕ
  pub later : head.next ≤ from
  pub mid : StandingText
  pub settled : settle_some within.Nest rs (cuts_by_variable p.cuts (kept_from b 0 xs)) (cuts_by_variable p.cuts (kept_from b 0 xs)) (begun from head) ≡ Some mid
  pub end : StandingText
  pub turned : turn_all rs (cuts_by_variable p.cuts (kept_from b 0 xs)) (nest_turns b rs p.loops) mid ≡ Some end
  pub is : slice_get nests number ≡ Some (nest_of xs b end)

module _ (xs : List (List ℕ)) (p : PlacedText) (rs : List Numbers) (head : StandingText) where
  some_nests : (a b : List NestText) → Some a ≡ Some b → a ≡ b
  some_nests a b e = cc

  some_body : (a b : BodyText) → Some a ≡ Some b → a ≡ b
  some_body a b e = cc

  -- the nest of the first definition, and those of the others
  record First (b : BodyText) (bs : List BodyText) (next : ℕ) (nests : List NestText) : Type 0 where
    mid : StandingText
    settled : settle_some within.Nest rs (cuts_by_variable p.cuts (kept_from b 0 xs)) (cuts_by_variable p.cuts (kept_from b 0 xs)) (begun next head) ≡ Some mid
    end : StandingText
    turned : turn_all rs (cuts_by_variable p.cuts (kept_from b 0 xs)) (nest_turns b rs p.loops) mid ≡ Some end
    others : List NestText
    rest : nests_in xs p rs head bs end.next ≡ Some others
    are : nests ≡ nest_of xs b end ∷ others

  first_of : (b : BodyText) (bs : List BodyText) (next : ℕ) (nests : List NestText) → nests_in xs p rs head (b ∷ bs) next ≡ Some nests → First b bs next nests
  first_of b bs next nests e = one (settle_some within.Nest rs (cuts_by_variable p.cuts (kept_from b 0 xs)) (cuts_by_variable p.cuts (kept_from b 0 xs)) (begun next head)) refl e
    where
      three : (mid end : StandingText) → settle_some within.Nest rs (cuts_by_variable p.cuts (kept_from b 0 xs)) (cuts_by_variable p.cuts (kept_from b 0 xs)) (begun next head) ≡ Some mid →
          turn_all rs (cuts_by_variable p.cuts (kept_from b 0 xs)) (nest_turns b rs p.loops) mid ≡ Some end →
          (o : Option (List NestText)) → nests_in xs p rs head bs end.next ≡ o → (o >>= λ nests. Some (nest_of xs b end ∷ nests)) ≡ Some nests → First b bs next nests
      three mid end a d None k e = absurd (cc e)
      three mid end a d (Some others) k e = record { mid = mid; settled = a; end = end; turned = d; others = others; rest = k; are = sym (some_nests (nest_of xs b end ∷ others) nests e) }

      two : (mid : StandingText) → settle_some within.Nest rs (cuts_by_variable p.cuts (kept_from b 0 xs)) (cuts_by_variable p.cuts (kept_from b 0 xs)) (begun next head) ≡ Some mid →
          (o : Option StandingText) → turn_all rs (cuts_by_variable p.cuts (kept_from b 0 xs)) (nest_turns b rs p.loops) mid ≡ o →
          (o >>= λ st. nests_in xs p rs head bs st.next >>= λ nests. Some (nest_of xs b st ∷ nests)) ≡ Some nests → First b bs next nests
      two mid a None k e = absurd (cc e)
      two mid a (Some end) k e = three mid end a k (nests_in xs p rs head bs end.next) refl e

      one : (o : Option StandingText) → settle_some within.Nest rs (cuts_by_variable p.cuts (kept_from b 0 xs)) (cuts_by_variable p.cuts (kept_from b 0 xs)) (begun next head) ≡ o →
          ((o >>= turn_all rs (cuts_by_variable p.cuts (kept_from b 0 xs)) (nest_turns b rs p.loops)) >>= λ st. nests_in xs p rs head bs st.next >>= λ nests. Some
          (nest_of xs b st ∷ nests)) ≡ Some nests → First b bs next nests
      one None k e = absurd (cc e)
      one (Some mid) k e = two mid k (turn_all rs (cuts_by_variable p.cuts (kept_from b 0 xs)) (nest_turns b rs p.loops) mid) refl e

  pub nest_of_body : (bs : List BodyText) (next : ℕ) (nests : List NestText) (number : ℕ) (b : BodyText) → nests_in xs p rs head bs next ≡ Some nests → slice_get bs number ≡ Some b →
      head.next ≤ next →
      IsNestOf xs p rs head nests number b
  nest_of_body [] next nests number b e at le = absurd (cc at)
  nest_of_body (d ∷ bs) next nests zero b e at le =
      let k = first_of d bs next nests e in
      subst (IsNestOf xs p rs head nests zero) (some_body d b at)
      (record { from = next; later = le; mid = k.mid; settled = k.settled; end = k.end; turned = k.turned; is = ap (λ (l : List NestText). slice_get l zero) k.are })
  nest_of_body (d ∷ bs) next nests (suc number) b e at le =
      let k = first_of d bs next nests e in
      let cs = cuts_by_variable p.cuts (kept_from d 0 xs) in
      let a = settle_rises within.Nest rs cs cs (begun next head) k.mid k.settled in
      let c = turns_rise rs cs (nest_turns d rs p.loops) k.mid k.end k.turned in
      let m = nest_of_body bs k.end.next k.others number b k.rest at (omega (arith, le, a, c)) in
      record { from = m.from; later = m.later; mid = m.mid; settled = m.settled; end = m.end; turned = m.turned; is = ap (λ (l : List NestText). slice_get l (suc number)) k.are ∙ m.is }

-- ---- one definition

in_kept : (dim : List ℕ → ℕ) (b : BodyText) (x : List ℕ) (d : ℕ) (xs : List (List ℕ)) → HaveDimensions dim d xs → In x xs → is_missing b (dim x) ≡ false → In x (kept_from b d xs)
in_kept dim b x d [] h m e = absurd m
in_kept dim b x d (y ∷ ys) h m e = of (is_missing b d) refl m (λ k. in_kept dim b x (d + 1) ys h.1 k e)
  where
    of : (v : Bool) → is_missing b d ≡ v → In x (y ∷ ys) → (In x ys → In x (kept_from b (d + 1) ys)) → In x (if v then kept_from b (d + 1) ys else y ∷ kept_from b (d + 1) ys)
    of true t (inl same) rest = absurd (let k : is_missing b (dim x) ≡ true = ap (λ z. is_missing b (dim z)) same ∙ ap (is_missing b) h.0 ∙ t in let no : true ≡ false = sym k ∙ e in cc no)
    of true t (inr k) rest = rest k
    of false t (inl same) rest = inl same
    of false t (inr k) rest = inr (rest k)

all_left : {A : Type 0} (P : A → Type 0) (xs ys : List A) → AllByRecursion P (xs ++ ys) → AllByRecursion P xs
all_left P [] ys a = tt
all_left P (x ∷ xs) ys a = (a.0, all_left P xs ys a.1)

all_right : {A : Type 0} (P : A → Type 0) (xs ys : List A) → AllByRecursion P (xs ++ ys) → AllByRecursion P ys
all_right P [] ys a = a
all_right P (x ∷ xs) ys a = all_right P xs ys a.1

-- the splits of one of the variables are among those of all
of_variable : (P : Split → Type 0) (cs : List Split) (x : List ℕ) (xs : List (List ℕ)) → AllByRecursion P (cuts_by_variable cs xs) → In x xs → AllByRecursion P (cuts_of cs (x ∷ []))
of_variable P cs x [] a m = absurd m
of_variable P cs x (y ∷ ys) a (inl e) = subst (λ z. AllByRecursion P (cuts_of cs (z ∷ []))) (sym e)
    (reverse_all P (cuts_of cs (y ∷ [])) (all_left P (reverse (cuts_of cs (y ∷ []))) (cuts_by_variable cs ys) a))
of_variable P cs x (y ∷ ys) a (inr m) = of_variable P cs x ys (all_right P (reverse (cuts_of cs (y ∷ []))) (cuts_by_variable cs ys) a) m

same_self : (v : Bool) → is_same v v ≡ true
same_self true = refl
same_self false = refl

module _ (ks : List Known) (n : ℕ) (s : Symbols) (w : List ℕ → ℤ) (told : AllByRecursion (λ k. IsTold n s (w k.name) k.form) ks) (b : BodyText) where
  met_by : (d : ℕ) (x : List ℕ) (z : ℤ) (o : Option Form) → form_named ks x ≡ o → Stands ks x → w x ≡ z → IsMet b d o s z
  met_by d x z (Some f) e h is = (found_all (λ y g. IsTold n s (w y) g) ks x f told e).value ∙ is
  met_by d x z None e h is = absurd (let clash : None ≡ Some h.0 = sym e ∙ h.1 in cc clash)

  ranges_met : (d : ℕ) (ds : List Turning) (r : List ℤ) → Gives w (map (λ t. t.name) ds) r → AllByRecursion (λ t. Stands ks t.name) ds → AreMet b d (ranges_at ds ks) s r
  ranges_met d [] [] g a = tt
  ranges_met d [] (z ∷ zs) g a = g
  ranges_met d (t ∷ ds) [] g a = g
  ranges_met d (t ∷ ds) (z ∷ zs) g a = (met_by d t.name z (form_named ks t.name) refl a.0 g.0, ranges_met (d + 1) ds zs g.1 a.1)

  variables_met : (dim : List ℕ → ℕ) (rest : List (Option Form)) (r : List ℤ) → ((d : ℕ) → AreMet b d rest s r) → (d : ℕ) (xs : List (List ℕ)) (q : List ℤ) → HaveDimensions dim d xs → Gives w xs q →
      AllByRecursion (λ x. is_missing b (dim x) ≡ false → Stands ks x) xs → AreMet b d (variables_at b d xs ks ++ rest) s (q ++ r)
  variables_met dim rest r end d [] [] h g a = end d
  variables_met dim rest r end d [] (z ∷ zs) h g a = absurd g
  variables_met dim rest r end d (x ∷ xs) [] h g a = absurd g
  variables_met dim rest r end d (x ∷ xs) (z ∷ zs) h g a = (of (is_missing b d) refl, variables_met dim rest r end (d + 1) xs zs h.1 g.1 a.1)
    where
      of : (v : Bool) → is_missing b d ≡ v → IsMet b d (if v then None else form_named ks x) s z
      of true e = e
      of false e = met_by d x z (form_named ks x) refl (a.0 (ap (is_missing b) h.0 ∙ e)) g.0

module _
    (xs : List (List ℕ)) (p : PlacedText) (rs : List Numbers) (w b : List ℕ → ℤ) (dim : List ℕ → ℕ) (laid : IsLaidOut xs p rs w b dim) (head : StandingText)
    (settled : settle_some within.Grid rs (cuts_by_variable p.cuts xs) (cuts_by_variable p.cuts xs) (over_grid rs p) ≡ Some head) where
  abbrev piece : List ℕ
  piece = piece_of rs w (parallel_loops p.loops)

  -- what stands over the grid
  head_moves : Moved (over_grid rs p) head (grid_symbols piece) (OnGround w b head)
  head_moves =
      let cs = cuts_by_variable p.cuts xs in
      ground_moves rs cs cs w b (all_by_variable (IsCut rs w b) p.cuts xs laid.cuts) within.Grid (over_grid rs p) head (grid_symbols piece) (on_grid rs w dim b p laid.loops) settled

  module _ (body : BodyText) (nests : List NestText) (number : ℕ) (nest : IsNestOf xs p rs head nests number body) (runs : AllByRecursion (IsRun w) body.ranges) where
    abbrev cs : List Split
    cs = cuts_by_variable p.cuts (kept_from body 0 xs)

    cuts : AllByRecursion (IsCut rs w b) (cuts_by_variable p.cuts (kept_from body 0 xs))
    cuts = all_by_variable (IsCut rs w b) p.cuts (kept_from body 0 xs) laid.cuts

    order : AreOrdered (cuts_by_variable p.cuts (kept_from body 0 xs))
    order = ordered_by_variable dim p.cuts laid.along (kept_from body 0 xs) (kept_rise dim body 0 xs laid.dimensions) laid.apart

    loops_run : (v : Bool) → AllByRecursion (IsRun w) (nest_loops body v rs p.loops)
    loops_run v =
        all_map (IsRun w) (loop_turning rs) (filter (is_in_nest body v) (reverse p.loops))
        (filter-all (λ l. IsRun w (loop_turning rs l)) (is_in_nest body v) (reverse p.loops)
        (all_reverse (λ l. IsRun w (loop_turning rs l)) p.loops (all_weaker (IsLoopOf rs w dim) (λ l. IsRun w (loop_turning rs l)) (λ l h. (h.low, h.last)) p.loops laid.loops)))

    all_run : AllByRecursion (IsRun w) (nest_turns body rs p.loops)
    all_run =
        all_both (IsRun w) (nest_loops body false rs p.loops ++ reverse body.ranges) (nest_loops body true rs p.loops)
        (all_both (IsRun w) (nest_loops body false rs p.loops) (reverse body.ranges) (loops_run false) (all_reverse (IsRun w) body.ranges runs)) (loops_run true)

    -- what stands before the first loop
    abbrev before : StandingText
    before = begun nest.from head

    on_ground : (s : Symbols) → OnGround w b head s → OnGround w b before s
    on_ground s h =
        let a = agrees_on w b s s head nest.from (λ i lt. refl) nest.later h.agrees in
        let some = h.some in
        let le = nest.later in
        record { agrees = record { known = a.known; starts = a.starts }; bound = h.bound; some = omega (arith, some, le); limits = h.limits }

    in_nest : (t : Symbols) → OnGround w b nest.mid t → InNest cs w b nest.mid t
    in_nest t h = record {
      agrees = h.agrees;
      bound = subst (λ (l : List ℕ). AllByRecursion (λ j. j < nest.mid.next) l) (sym h.bound) tt;
      closed = closes within.Nest rs cs (λ e. cc e) cs before nest.mid nest.settled order;
    }

    abbrev names : List (List ℕ)
    names = map (λ t. t.name) (nest_turns body rs p.loops)

    nest_moves : Moved before nest.end head_moves.end (Turned cs w b nest.mid names nest.end)
    nest_moves =
        moved_on before nest.mid nest.end head_moves.end (OnGround w b nest.mid) (Turned cs w b nest.mid names nest.end)
        (ground_moves rs cs cs w b cuts within.Nest before nest.mid head_moves.end (on_ground head_moves.end head_moves.there) nest.settled)
        (λ t h. turns_move rs cs w b cuts order (nest_turns body rs p.loops) nest.mid nest.end t (in_nest t h) all_run nest.turned)

    abbrev ks : List Known
    ks = nest.end.known

    -- each loop stands
    named : (t : Turning) → In t (nest_turns body rs p.loops) → Stands nest.end.known t.name
    named t m = all_at (λ t. Stands nest.end.known t.name) (nest_turns body rs p.loops) t (all_of_map (Stands nest.end.known) (λ t. t.name) (nest_turns body rs p.loops) nest_moves.there.named) m

    loop_stands : (l : Loop) → In l p.loops → is_missing body l.dimension ≡ false → Stands nest.end.known l.name
    loop_stands l m here = of (is_parallel l) refl
      where
        turning : is_in_nest body (is_vectorized l) l ≡ true → (v : Bool) → is_vectorized l ≡ v → In (loop_turning rs l) (nest_turns body rs p.loops)
        turning e true k =
            in_right (loop_turning rs l) (nest_loops body false rs p.loops ++ reverse body.ranges) (nest_loops body true rs p.loops)
            (in_map (loop_turning rs) l (filter (is_in_nest body true) (reverse p.loops))
            (in_filter (is_in_nest body true) l (reverse p.loops) (in_reverse l p.loops m) (ap (λ v. is_in_nest body v l) (sym k) ∙ e)))
        turning e false k =
            in_left (loop_turning rs l) (nest_loops body false rs p.loops ++ reverse body.ranges) (nest_loops body true rs p.loops)
            (in_left (loop_turning rs l) (nest_loops body false rs p.loops) (reverse body.ranges)
            (in_map (loop_turning rs) l (filter (is_in_nest body false) (reverse p.loops))
            (in_filter (is_in_nest body false) l (reverse p.loops) (in_reverse l p.loops m) (ap (λ v. is_in_nest body v l) (sym k) ∙ e))))

        of : (v : Bool) → is_parallel l ≡ v → Stands nest.end.known l.name
        of true e =
            let grid = grid_stands rs w dim l 0 (parallel_loops p.loops) (in_filter is_parallel l p.loops m e) in
            let all = cuts_by_variable p.cuts xs in
            let over = settle_more within.Grid rs all all (over_grid rs p) head settled l.name grid in
            nest_moves.there.more l.name (settle_more within.Nest rs cs cs before nest.mid nest.settled l.name over)
        of false e =
            let test : is_in_nest body (is_vectorized l) l ≡ true = rw (e, here) (same_self (is_vectorized l)) in
            named (loop_turning rs l) (turning test (is_vectorized l) refl)

    -- each variable stands
    variable_stands : (x : List ℕ) → In x xs → IsHeld p.loops p.cuts x → is_missing body (dim x) ≡ false → Stands nest.end.known x
    variable_stands x m held here =
        names_stand dim (dim x) p.loops nest.end
        (λ l k same. loop_stands l k (ap (is_missing body) ((all_at (IsLoopOf rs w dim) p.loops l laid.loops k).dimension ∙ same) ∙ here))
        p.cuts (x ∷ []) (refl, tt) laid.along laid.held
        (of_variable (IsClosed nest.end) p.cuts x (kept_from body 0 xs) nest_moves.there.nest.closed (in_kept dim body x 0 xs laid.dimensions m here))
        x (among_first x []) held

    variables_stand : (ys : List (List ℕ)) → ((x : List ℕ) → In x ys → In x xs) → AllByRecursion (IsHeld p.loops p.cuts) ys →
        AllByRecursion (λ x. is_missing body (dim x) ≡ false → Stands nest.end.known x) ys
    variables_stand [] f a = tt
    variables_stand (y ∷ ys) f a = (variable_stands y (f y (inl refl)) a.0, variables_stand ys (λ x m. f x (inr m)) a.1)

    ranges_stand : (ds : List Turning) → ((t : Turning) → In t ds → In t body.ranges) → AllByRecursion (λ t. Stands nest.end.known t.name) ds
    ranges_stand [] f = tt
    ranges_stand (t ∷ ds) f = (
      named t (in_left t (nest_loops body false rs p.loops ++ reverse body.ranges) (nest_loops body true rs p.loops)
          (in_right t (nest_loops body false rs p.loops) (reverse body.ranges) (in_reverse t body.ranges (f t (inl refl))))),
      ranges_stand ds (λ u m. f u (inr m)),
    )

    pub nest_visits : (k : SkeletonText) (q r : List ℤ) → k.grid ≡ piece_counts rs p.loops → k.head ≡ head.steps → Gives w xs q → Gives w (map (λ t. t.name) body.ranges) r →
        IsVisited k body (nest_of xs body nest.end) (q ++ r)
    nest_visits k q r grid first gives more =
        let a = head_moves in
        let m = nest_moves in
        let told = m.there.nest.agrees.known in
        record {
          piece = piece;
          in_grid = subst (λ (ns : List ℕ). IsInGrid ns piece) (sym grid) (in_grid rs w dim (parallel_loops p.loops) (filter-all (IsLoopOf rs w dim) is_parallel p.loops laid.loops));
          symbols = m.end;
          arrives = arrives_at (k.head ++ nest.end.steps) (grid_symbols piece) m.end
              (leads_on k.head nest.end.steps (grid_symbols piece) a.end m.end
              (subst (λ (l : List Step). Leads l (grid_symbols piece) a.end) (sym (first ∙ a.are)) a.leads)
              (subst (λ (l : List Step). Leads l a.end m.end) (sym m.are) m.leads));
          met = variables_met nest.end.known nest.end.next m.end w told body dim (ranges_at body.ranges nest.end.known) r
              (λ d. ranges_met nest.end.known nest.end.next m.end w told body d body.ranges r more (ranges_stand body.ranges (λ t k. k))) 0 xs q laid.dimensions gives
              (variables_stand xs (λ x k. k) laid.variables);
        }

-- ---- the skeleton

some_skeleton : (a b : SkeletonText) → Some a ≡ Some b → a ≡ b
some_skeleton a b e = cc

pub record IsSkeletonOf (xs : List (List ℕ)) (bs : List BodyText) (p : PlacedText) (rs : List Numbers) (k : SkeletonText) : Type 0 where
  pub head : StandingText
  pub settled : settle_some within.Grid rs (cuts_by_variable p.cuts xs) (cuts_by_variable p.cuts xs) (over_grid rs p) ≡ Some head
  pub nests : nests_in xs p rs head bs head.next ≡ Some k.nests
  pub grid : k.grid ≡ piece_counts rs p.loops
  pub first : k.head ≡ head.steps

pub skeleton_parts : (xs : List (List ℕ)) (bs : List BodyText) (p : PlacedText) (region : List Extent) (k : SkeletonText) → skeleton_in xs bs p region ≡ Some k →
    IsSkeletonOf xs bs p (loop_numbers xs p.cuts region) k
skeleton_parts xs bs p region k e = one (settle_some within.Grid (loop_numbers xs p.cuts region) (cuts_by_variable p.cuts xs) (cuts_by_variable p.cuts xs)
    (over_grid (loop_numbers xs p.cuts region) p)) refl e
  where
    two : (head : StandingText) → settle_some within.Grid (loop_numbers xs p.cuts region) (cuts_by_variable p.cuts xs) (cuts_by_variable p.cuts xs)
        (over_grid (loop_numbers xs p.cuts region) p) ≡ Some head →
        (o : Option (List NestText)) → nests_in xs p (loop_numbers xs p.cuts region) head bs head.next ≡ o →
        (o >>= λ nests. Some (record { grid = piece_counts (loop_numbers xs p.cuts region) p.loops; head = head.steps; nests = nests; known = head.known; starts = head.starts })) ≡ Some k →
        IsSkeletonOf xs bs p (loop_numbers xs p.cuts region) k
    two head a None j e = absurd (cc e)
    two head a (Some nests) j e =
        let same = some_skeleton (record { grid = piece_counts (loop_numbers xs p.cuts region) p.loops; head = head.steps; nests = nests; known = head.known; starts = head.starts }) k e in
        record {
          head = head;
          settled = a;
          nests = j ∙ ap (λ (s : SkeletonText). Some s.nests) same;
          grid = ap (λ (s : SkeletonText). s.grid) (sym same);
          first = ap (λ (s : SkeletonText). s.head)
              (sym same);
        }

    one : (o : Option StandingText) → settle_some within.Grid (loop_numbers xs p.cuts region) (cuts_by_variable p.cuts xs) (cuts_by_variable p.cuts xs)
        (over_grid (loop_numbers xs p.cuts region) p) ≡ o →
        (o >>= λ head. nests_in xs p (loop_numbers xs p.cuts region) head bs head.next >>= λ nests.
        Some (record { grid = piece_counts (loop_numbers xs p.cuts region) p.loops; head = head.steps; nests = nests; known = head.known; starts = head.starts })) ≡ Some k →
        IsSkeletonOf xs bs p (loop_numbers xs p.cuts region) k
    one None j e = absurd (cc e)
    one (Some head) j e = two head j (nests_in xs p (loop_numbers xs p.cuts region) head bs head.next) refl e
