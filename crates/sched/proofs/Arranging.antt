-- What a split makes of numbers that fit a function's loops: they are numbers of the loops that it makes.
use Rattle.std.proofs.Common.{◌≡◌, ℕ, ◌+◌, ◌<◌, Bool, true, false, ◌||◌, List, [], ◌∷◌, ◌++◌, Some, None, refl, sym, ap, ◌∙◌, subst, inl, inr, arith}
use Rattle.std.specs.Prelude.{ℤ, pos, ◌+ℤ◌, ◌-ℤ◌, ◌≤ℤ◌, if◌then◌else◌}
use Rattle.std.specs.List.{AllByRecursion, flat_map}
use Rattle.std.proofs.lemmas.Int.{ints}
use Rattle.lin.proofs.TermLemmas.{all_weaker}
use Rattle.meaning.specs.Names.{same_name, is_among}
use Rattle.meaning.proofs.Cases.{name_same, same_name_is, name_differs}
use Rattle.sched.specs.declared.schedule.Split.{Split}
use Rattle.sched.specs.declared.placing.Loop.{Loop}
use Rattle.sched.specs.declared.numbers.Extent.{Extent}
use Rattle.sched.specs.declared.numbers.Numbers.{Numbers}
use Rattle.sched.specs.Placing.{has_loop, cut_loop}
use Rattle.sched.specs.Numbers.{numbers_found, numbers_named, last_number, blocks, halves, loop_numbers, whole_numbers}
use Rattle.sched.proofs.Leading.{In, in_left, in_right}
use Rattle.sched.proofs.Standings.{first_number}
use Rattle.sched.proofs.Passing.{IsCut}
use Rattle.sched.proofs.Closing.{IsApart}
use Rattle.sched.proofs.Looping.{all_last}
use Rattle.sched.proofs.Rooting.{all_both, all_two, all_at, among_left, among_right, among_first, among_second, IsAlong, AreApart, HaveDimensions, IsHeld, AreHeld}
use Rattle.sched.proofs.Visiting.{IsLoopOf}
use Rattle.sched.proofs.Numbering.{apart_names, with_two, with_first, with_second, with_other, Found, found_more, found_later, named_more, named_later, none_found, cut_last, outer_found, inner_found, half_none, half_outer, half_inner, IsInBlock, in_block}

-- ---- numbers that fit loops and splits

-- the loop's name stands for one of its numbers, and is used up
pub record LoopFits (rs : List Numbers) (w : List ℕ → ℤ) (dim : List ℕ → ℕ) (used : List (List ℕ)) (l : Loop) : Type 0 where
  pub is : IsLoopOf rs w dim l
  pub used_up : is_among used l.name ≡ true
  pub found : Found rs l.name

-- the split's names stand for numbers that fit each other, and are used up
pub record SplitFits (rs : List Numbers) (w b : List ℕ → ℤ) (dim : List ℕ → ℕ) (used : List (List ℕ)) (c : Split) : Type 0 where
  pub cut : IsCut rs w b c
  pub along : IsAlong dim c
  pub whole : is_among used c.whole ≡ true
  pub outer : is_among used c.outer ≡ true
  pub inner : is_among used c.inner ≡ true
  pub found : Found rs c.whole
  pub outer_numbers : numbers_found rs c.outer ≡ Some (record { name = c.outer; low = pos 0; count = blocks (numbers_named rs c.whole).count c.factor })
  pub inner_numbers : numbers_found rs c.inner ≡ Some (record { name = c.inner; low = pos 0; count = c.factor })

-- no loop has the name of a loop that was split
abbrev pub IsGone : List Loop → Split → Type 0
IsGone ls c = AllByRecursion (λ l. c.whole ≡ l.name → ⊥) ls

pub record IsArranged (xs first : List (List ℕ)) (region : List Extent) (given : List ℕ → ℤ) (ls : List Loop) (cs : List Split) (used : List (List ℕ)) : Type 0 where
  pub rs : List Numbers
  pub w : List ℕ → ℤ
  pub b : List ℕ → ℤ
  pub dim : List ℕ → ℕ
  pub numbers : rs ≡ loop_numbers xs cs region
  pub loops : AllByRecursion (LoopFits rs w dim used) ls
  pub cuts : AllByRecursion (SplitFits rs w b dim used) cs
  pub apart : AreApart cs
  pub gone : AllByRecursion (IsGone ls) cs
  pub held : AreHeld ls cs
  pub variables : AllByRecursion (IsHeld ls cs) xs
  pub dimensions : HaveDimensions dim 0 xs
  pub kept : (y : List ℕ) → is_among first y ≡ true → w y ≡ given y
  pub used_first : (y : List ℕ) → is_among first y ≡ true → is_among used y ≡ true
  pub used_numbers : AllByRecursion (λ r. is_among used r.name ≡ true) rs
  pub used_variables : AllByRecursion (λ x. is_among first x ≡ true) xs
  pub others : (y : List ℕ) → is_among first y ≡ true → is_among xs y ≡ false → numbers_found rs y ≡ None

-- ---- one split more

abbrev pub inner_of : Split → Loop → Loop
inner_of s l = record { name = s.inner; dimension = l.dimension; within = Some s.factor; mark = None }

abbrev pub outer_of : Split → Loop → Loop
outer_of s l = record { name = s.outer; dimension = l.dimension; within = None; mark = None }

-- what holds of all loops behind a split
all_cut : (s : Split) (P Q : Loop → Type 0) → ((l : Loop) → Q l → l.name ≡ s.whole → P (inner_of s l) × P (outer_of s l)) → ((l : Loop) → Q l → (l.name ≡ s.whole → ⊥) → P l) → (ls : List Loop) →
    AllByRecursion Q ls →
    AllByRecursion P (flat_map (cut_loop s) ls)
all_cut s P Q split keep [] a = tt
all_cut s P Q split keep (l ∷ ls) a = of (same_name l.name s.whole) refl (all_cut s P Q split keep ls a.1)
  where
    of : (v : Bool) → same_name l.name s.whole ≡ v → AllByRecursion P (flat_map (cut_loop s) ls) →
        AllByRecursion P ((if v then inner_of s l ∷ outer_of s l ∷ [] else l ∷ []) ++ flat_map (cut_loop s) ls)
    of true e rest = let k = split l a.0 (same_name_is l.name s.whole e) in (k.0, (k.1, rest))
    of false e rest = (keep l a.0 (λ same. let taken = name_same l.name s.whole same in let clash : true ≡ false = sym taken ∙ e in cc clash), rest)

in_cut_kept : (s : Split) (l : Loop) (ls : List Loop) → In l ls → same_name l.name s.whole ≡ false → In l (flat_map (cut_loop s) ls)
in_cut_kept s l [] m e = absurd m
in_cut_kept s l (x ∷ ls) (inl same) e =
    in_left l (cut_loop s x) (flat_map (cut_loop s) ls)
    (subst (λ (v : Bool). In l (if v then inner_of s x ∷ outer_of s x ∷ [] else x ∷ [])) (sym (ap (λ (y : Loop). same_name y.name s.whole) (sym same) ∙ e)) (inl same))
in_cut_kept s l (x ∷ ls) (inr m) e = in_right l (cut_loop s x) (flat_map (cut_loop s) ls) (in_cut_kept s l ls m e)

in_cut_made : (s : Split) (l : Loop) (ls : List Loop) → In l ls → l.name ≡ s.whole → In (inner_of s l) (flat_map (cut_loop s) ls) × In (outer_of s l) (flat_map (cut_loop s) ls)
in_cut_made s l [] m e = absurd m
in_cut_made s l (x ∷ ls) (inl same) e =
    let taken : same_name x.name s.whole ≡ true = name_same x.name s.whole (ap (λ (y : Loop). y.name) (sym same) ∙ e) in
    let P : Bool → Loop → Type 0 = λ v y. In y (if v then inner_of s x ∷ outer_of s x ∷ [] else x ∷ []) in (
      in_left (inner_of s l) (cut_loop s x) (flat_map (cut_loop s) ls) (subst (λ v. P v (inner_of s l)) (sym taken) (inl (ap (inner_of s) same))),
      in_left (outer_of s l) (cut_loop s x) (flat_map (cut_loop s) ls) (subst (λ v. P v (outer_of s l)) (sym taken) (inr (inl (ap (outer_of s) same)))),
    )
in_cut_made s l (x ∷ ls) (inr m) e =
    let k = in_cut_made s l ls m e in (in_right (inner_of s l) (cut_loop s x) (flat_map (cut_loop s) ls) k.0, in_right (outer_of s l) (cut_loop s x) (flat_map (cut_loop s) ls) k.1)

pub loop_at : (ls : List Loop) (x : List ℕ) → has_loop ls x ≡ true → (l : Loop) × In l ls × (l.name ≡ x)
loop_at [] x e = absurd (cc e)
loop_at (l ∷ ls) x e = of (same_name l.name x) refl e (λ k. loop_at ls x k)
  where
    of : (v : Bool) → same_name l.name x ≡ v → (v || has_loop ls x) ≡ true → (has_loop ls x ≡ true → (l : Loop) × In l ls × (l.name ≡ x)) → (m : Loop) × In m (l ∷ ls) × (m.name ≡ x)
    of true h k rest = (l, inl refl, same_name_is l.name x h)
    of false h k rest = let m = rest k in (m.0, inr m.1, m.2)

-- held names stay held
held_on : (s : Split) (ls : List Loop) (cs : List Split) (x : List ℕ) → IsHeld ls cs x → IsHeld (flat_map (cut_loop s) ls) (cs ++ s ∷ []) x
held_on s ls cs x (inr h) = inr (h.0, in_left h.0 cs (s ∷ []) h.1, h.2)
held_on s ls cs x (inl h) = of (same_name h.0.name s.whole) refl
  where
    of : (v : Bool) → same_name h.0.name s.whole ≡ v → IsHeld (flat_map (cut_loop s) ls) (cs ++ s ∷ []) x
    of true e = inr (s, in_right s cs (s ∷ []) (inl refl), sym (same_name_is h.0.name s.whole e) ∙ h.2)
    of false e = inl (h.0, in_cut_kept s h.0 ls h.1 e, h.2)

all_held_on : (s : Split) (ls : List Loop) (cs : List Split) → IsHeld (flat_map (cut_loop s) ls) [] s.outer → IsHeld (flat_map (cut_loop s) ls) [] s.inner → AreHeld ls cs →
    AreHeld (flat_map (cut_loop s) ls) (cs ++ s ∷ [])
all_held_on s ls [] outside inside h = (outside, inside, tt)
all_held_on s ls (c ∷ cs) outside inside h = (held_on s ls cs c.outer h.0, held_on s ls cs c.inner h.1, all_held_on s ls cs outside inside h.2)

apart_on : (s : Split) (cs : List Split) → (s.whole ≡ s.outer → ⊥) → (s.whole ≡ s.inner → ⊥) → AllByRecursion (λ d. IsApart s d) cs → AreApart cs → AreApart (cs ++ s ∷ [])
apart_on s [] outside inside a h = (outside, inside, tt, tt)
apart_on s (d ∷ cs) outside inside a h = (h.0, h.1, all_last (λ c. IsApart c d) cs s h.2 a.0, apart_on s cs outside inside a.1 h.3)

pub dimensions_on : (f g : List ℕ → ℕ) (n : ℕ) (xs : List (List ℕ)) → AllByRecursion (λ x. g x ≡ f x) xs → HaveDimensions f n xs → HaveDimensions g n xs
dimensions_on f g n [] a h = tt
dimensions_on f g n (x ∷ xs) a h = (a.0 ∙ h.0, dimensions_on f g (n + 1) xs a.1 h.1)

module _
    (xs first : List (List ℕ)) (region : List Extent) (given : List ℕ → ℤ) (ls : List Loop) (cs : List Split) (used : List (List ℕ)) (h : IsArranged xs first region given ls cs used) (s : Split)
    (one : Loop) (there : In one ls) (is_whole : one.name ≡ s.whole)
    (new_outer : is_among used s.outer ≡ false) (new_inner : is_among used s.inner ≡ false) (differ : s.outer ≡ s.inner → ⊥) (some : 0 < s.factor) where
  abbrev r : Numbers
  r = numbers_named h.rs s.whole

  abbrev y : ℤ
  y = h.w s.whole

  fits : LoopFits h.rs h.w h.dim used one
  fits = all_at (LoopFits h.rs h.w h.dim used) ls one h.loops there

  whole_used : is_among used s.whole ≡ true
  whole_used = subst (λ x. is_among used x ≡ true) is_whole fits.used_up

  whole_found : Found h.rs s.whole
  whole_found = subst (Found h.rs) is_whole fits.found

  whole_low : (numbers_named h.rs s.whole).low ≤ℤ h.w s.whole
  whole_low = subst (λ x. (numbers_named h.rs x).low ≤ℤ h.w x) is_whole fits.is.low

  whole_last : h.w s.whole ≤ℤ last_number (numbers_named h.rs s.whole)
  whole_last = subst (λ x. h.w x ≤ℤ last_number (numbers_named h.rs x)) is_whole fits.is.last

  place : IsInBlock (numbers_named h.rs s.whole) s.tail s.factor (h.w s.whole)
  place = in_block (numbers_named h.rs s.whole) s.factor some (h.w s.whole) whole_low whole_last s.tail

  abbrev start : ℤ
  start = first_number s.tail (numbers_named h.rs s.whole) s.factor (pos place.block)

  abbrev w' : List ℕ → ℤ
  w' = with_two s.outer (pos place.block) s.inner (h.w s.whole -ℤ first_number s.tail (numbers_named h.rs s.whole) s.factor (pos place.block)) h.w

  abbrev b' : List ℕ → ℤ
  b' = λ x. if same_name x s.whole then first_number s.tail (numbers_named h.rs s.whole) s.factor (pos place.block) else h.b x

  abbrev dim' : List ℕ → ℕ
  dim' = with_two s.outer (h.dim s.whole) s.inner (h.dim s.whole) h.dim

  abbrev rs' : List Numbers
  rs' = h.rs ++ halves s (numbers_named h.rs s.whole).count

  abbrev used' : List (List ℕ)
  used' = used ++ s.outer ∷ s.inner ∷ []

  -- names that were used stand for what they stood for
  w_on : (x : List ℕ) → is_among used x ≡ true → w' x ≡ h.w x
  w_on x taken = with_other s.outer (pos place.block) s.inner (h.w s.whole -ℤ start) h.w x (apart_names used x s.outer taken new_outer) (apart_names used x s.inner taken new_inner)

  dim_on : (x : List ℕ) → is_among used x ≡ true → dim' x ≡ h.dim x
  dim_on x taken = with_other s.outer (h.dim s.whole) s.inner (h.dim s.whole) h.dim x (apart_names used x s.outer taken new_outer) (apart_names used x s.inner taken new_inner)

  w_outer : w' s.outer ≡ pos place.block
  w_outer = with_first s.outer (pos place.block) s.inner (h.w s.whole -ℤ start) h.w

  w_inner : w' s.inner ≡ h.w s.whole -ℤ start
  w_inner = with_second s.outer (pos place.block) s.inner (h.w s.whole -ℤ start) h.w (λ e. differ (sym e))

  dim_outer : dim' s.outer ≡ h.dim s.whole
  dim_outer = with_first s.outer (h.dim s.whole) s.inner (h.dim s.whole) h.dim

  dim_inner : dim' s.inner ≡ h.dim s.whole
  dim_inner = with_second s.outer (h.dim s.whole) s.inner (h.dim s.whole) h.dim (λ e. differ (sym e))

  numbers_on : (x : List ℕ) → Found h.rs x → numbers_named rs' x ≡ numbers_named h.rs x
  numbers_on x f = named_more h.rs (halves s (numbers_named h.rs s.whole).count) x f

  numbers_outer : numbers_named rs' s.outer ≡ record { name = s.outer; low = pos 0; count = blocks (numbers_named h.rs s.whole).count s.factor }
  numbers_outer = named_later h.rs (halves s (numbers_named h.rs s.whole).count) s.outer (none_found used s.outer new_outer h.rs h.used_numbers) ∙ half_outer s (numbers_named h.rs s.whole).count

  numbers_inner : numbers_named rs' s.inner ≡ record { name = s.inner; low = pos 0; count = s.factor }
  numbers_inner = named_later h.rs (halves s (numbers_named h.rs s.whole).count) s.inner (none_found used s.inner new_inner h.rs h.used_numbers)
      ∙ half_inner s (numbers_named h.rs s.whole).count differ

  used_on : (x : List ℕ) → is_among used x ≡ true → is_among used' x ≡ true
  used_on x taken = among_left used (s.outer ∷ s.inner ∷ []) x taken

  used_outer : is_among used' s.outer ≡ true
  used_outer = among_right used (s.outer ∷ s.inner ∷ []) s.outer (among_first s.outer (s.inner ∷ []))

  used_inner : is_among used' s.inner ≡ true
  used_inner = among_right used (s.outer ∷ s.inner ∷ []) s.inner (among_second s.outer s.inner)

  found_on : (x : List ℕ) → Found h.rs x → Found rs' x
  found_on x f = (f.0, found_more h.rs (halves s (numbers_named h.rs s.whole).count) x f.0 f.1)

  found_outer : Found rs' s.outer
  found_outer = (
    record { name = s.outer; low = pos 0; count = blocks (numbers_named h.rs s.whole).count s.factor },
    found_later h.rs (halves s (numbers_named h.rs s.whole).count) s.outer (none_found used s.outer new_outer h.rs h.used_numbers) ∙ outer_found s (numbers_named h.rs s.whole).count,
  )

  found_inner : Found rs' s.inner
  found_inner = (
    record { name = s.inner; low = pos 0; count = s.factor },
    found_later h.rs (halves s (numbers_named h.rs s.whole).count) s.inner (none_found used s.inner new_inner h.rs h.used_numbers) ∙ inner_found s (numbers_named h.rs s.whole).count differ,
  )

  -- ---- loops

  loop_on : (l : Loop) → LoopFits h.rs h.w h.dim used l → LoopFits rs' w' dim' used' l
  loop_on l k =
      let numbers = numbers_on l.name k.found in
      let value = w_on l.name k.used_up in
      record {
        is = record {
          dimension = k.is.dimension ∙ sym (dim_on l.name k.used_up);
          low = subst (λ (q : Numbers). q.low ≤ℤ w' l.name) (sym numbers) (subst (λ z. (numbers_named h.rs l.name).low ≤ℤ z) (sym value) k.is.low);
          last = subst (λ (q : Numbers). w' l.name ≤ℤ last_number q) (sym numbers) (subst (λ z. z ≤ℤ last_number (numbers_named h.rs l.name)) (sym value) k.is.last);
        };
        used_up = used_on l.name k.used_up;
        found = found_on l.name k.found;
      }

  outer_fits : (l : Loop) → LoopFits h.rs h.w h.dim used l → l.name ≡ s.whole → LoopFits rs' w' dim' used' (outer_of s l)
  outer_fits l k e =
      let below = place.below in
      record {
        is = record {
          dimension = k.is.dimension ∙ ap h.dim e ∙ sym dim_outer;
          low = subst (λ (q : Numbers). q.low ≤ℤ w' s.outer) (sym numbers_outer) (subst (λ z. pos 0 ≤ℤ z) (sym w_outer) (omega (arith, ints)));
          last = subst (λ (q : Numbers). w' s.outer ≤ℤ last_number q) (sym numbers_outer)
              (subst (λ z. z ≤ℤ (pos 0 +ℤ pos (blocks (numbers_named h.rs s.whole).count s.factor) -ℤ pos 1)) (sym w_outer) (omega (arith, ints, below)));
        };
        used_up = used_outer;
        found = found_outer;
      }

  inner_fits : (l : Loop) → LoopFits h.rs h.w h.dim used l → l.name ≡ s.whole → LoopFits rs' w' dim' used' (inner_of s l)
  inner_fits l k e =
      let low = place.low in
      let high = place.high in
      record {
        is = record {
          dimension = k.is.dimension ∙ ap h.dim e ∙ sym dim_inner;
          low = subst (λ (q : Numbers). q.low ≤ℤ w' s.inner) (sym numbers_inner) (subst (λ z. pos 0 ≤ℤ z) (sym w_inner) (omega (arith, ints, low)));
          last = subst (λ (q : Numbers). w' s.inner ≤ℤ last_number q) (sym numbers_inner) (subst (λ z. z ≤ℤ (pos 0 +ℤ pos s.factor -ℤ pos 1)) (sym w_inner) (omega (arith, ints, high)));
        };
        used_up = used_inner;
        found = found_inner;
      }

  -- ---- splits

  not_whole : (c : Split) → IsGone ls c → c.whole ≡ s.whole → ⊥
  not_whole c g e = all_at (λ l. c.whole ≡ l.name → ⊥) ls one g there (e ∙ sym is_whole)

  split_on : (c : Split) → SplitFits h.rs h.w h.b h.dim used c → IsGone ls c → SplitFits rs' w' b' dim' used' c
  split_on c k g =
      let numbers = numbers_on c.whole k.found in
      let other = name_differs c.whole s.whole (not_whole c g) in
      let begins : b' c.whole ≡ h.b c.whole = rw other refl in
      let outside = w_on c.outer k.outer in
      let inside = w_on c.inner k.inner in
      let whole = w_on c.whole k.whole in
      let sum = k.cut.whole in
      record {
        cut = record {
          some = k.cut.some;
          start = begins ∙ k.cut.start ∙ sym (ap (λ (q : Numbers). first_number c.tail q c.factor (w' c.outer)) numbers ∙ ap (first_number c.tail (numbers_named h.rs c.whole) c.factor) outside);
          whole = omega (arith, ints, whole, begins, inside, sum);
          most = subst (λ (q : Numbers). w' c.whole ≤ℤ last_number q) (sym numbers) (subst (λ z. z ≤ℤ last_number (numbers_named h.rs c.whole)) (sym whole) k.cut.most);
        };
        along = record { outer = dim_on c.outer k.outer ∙ k.along.outer ∙ sym (dim_on c.whole k.whole); inner = dim_on c.inner k.inner ∙ k.along.inner ∙ sym (dim_on c.whole k.whole) };
        whole = used_on c.whole k.whole;
        outer = used_on c.outer k.outer;
        inner = used_on c.inner k.inner;
        found = found_on c.whole k.found;
        outer_numbers = found_more h.rs (halves s (numbers_named h.rs s.whole).count) c.outer
            (record { name = c.outer; low = pos 0; count = blocks (numbers_named h.rs c.whole).count c.factor }) k.outer_numbers
            ∙ ap (λ (q : Numbers). Some (record { name = c.outer; low = pos 0; count = blocks q.count c.factor })) (sym numbers);
        inner_numbers = found_more h.rs (halves s (numbers_named h.rs s.whole).count) c.inner (record { name = c.inner; low = pos 0; count = c.factor }) k.inner_numbers;
      }

  split_fits : SplitFits rs' w' b' dim' used' s
  unfolding found_outer found_inner
  split_fits =
      let numbers = numbers_on s.whole whole_found in
      let same = name_same s.whole s.whole refl in
      let begins : b' s.whole ≡ start = rw same refl in
      let whole = w_on s.whole whole_used in
      let inside = w_inner in
      record {
        cut = record {
          some = some;
          start = begins ∙ sym (ap (λ (q : Numbers). first_number s.tail q s.factor (w' s.outer)) numbers ∙ ap (first_number s.tail (numbers_named h.rs s.whole) s.factor) w_outer);
          whole = omega (arith, ints, whole, begins, inside);
          most = subst (λ (q : Numbers). w' s.whole ≤ℤ last_number q) (sym numbers) (subst (λ z. z ≤ℤ last_number (numbers_named h.rs s.whole)) (sym whole) whole_last);
        };
        along = record { outer = dim_outer ∙ sym (dim_on s.whole whole_used); inner = dim_inner ∙ sym (dim_on s.whole whole_used) };
        whole = used_on s.whole whole_used;
        outer = used_outer;
        inner = used_inner;
        found = found_on s.whole whole_found;
        outer_numbers = found_outer.1 ∙ ap (λ (q : Numbers). Some (record { name = s.outer; low = pos 0; count = blocks q.count s.factor })) (sym numbers);
        inner_numbers = found_inner.1;
      }

  own_outer : s.whole ≡ s.outer → ⊥
  own_outer = apart_names used s.whole s.outer whole_used new_outer

  own_inner : s.whole ≡ s.inner → ⊥
  own_inner = apart_names used s.whole s.inner whole_used new_inner

  gone_on : (c : Split) → SplitFits h.rs h.w h.b h.dim used c → IsGone ls c → IsGone (flat_map (cut_loop s) ls) c
  gone_on c k g =
      all_cut s (λ l. c.whole ≡ l.name → ⊥) (λ l. c.whole ≡ l.name → ⊥)
      (λ l q e. (apart_names used c.whole s.inner k.whole new_inner, apart_names used c.whole s.outer k.whole new_outer)) (λ l q e. q) ls g

  gone_now : IsGone (flat_map (cut_loop s) ls) s
  gone_now = all_cut s (λ l. s.whole ≡ l.name → ⊥) (LoopFits h.rs h.w h.dim used) (λ l q e. (own_inner, own_outer)) (λ l q ne e. ne (sym e)) ls h.loops

  pub split_arranges : IsArranged xs first region given (flat_map (cut_loop s) ls) (cs ++ s ∷ []) (used ++ s.outer ∷ s.inner ∷ [])
  split_arranges =
      let made = in_cut_made s one ls there is_whole in
      record {
        rs = rs';
        w = w';
        b = b';
        dim = dim';
        numbers = ap (λ (rs : List Numbers). rs ++ halves s (numbers_named rs s.whole).count) h.numbers ∙ sym (cut_last cs s (whole_numbers xs region));
        loops = all_cut s (LoopFits rs' w' dim' used') (LoopFits h.rs h.w h.dim used) (λ l k e. (inner_fits l k e, outer_fits l k e)) (λ l k ne. loop_on l k) ls h.loops;
        cuts = all_last (SplitFits rs' w' b' dim' used') cs s
            (all_two (SplitFits h.rs h.w h.b h.dim used) (IsGone ls) (SplitFits rs' w' b' dim' used') (λ c k g. split_on c k g) cs h.cuts h.gone) split_fits;
        apart = apart_on s cs own_outer own_inner
            (all_two (SplitFits h.rs h.w h.b h.dim used) (IsGone ls) (λ d. IsApart s d)
            (λ d k g. record {
              whole = not_whole d g;
              outer = apart_names used d.whole s.outer k.whole new_outer;
              inner = apart_names used d.whole s.inner k.whole new_inner;
            }) cs h.cuts h.gone) h.apart;
        gone = all_last (IsGone (flat_map (cut_loop s) ls)) cs s
            (all_two (SplitFits h.rs h.w h.b h.dim used) (IsGone ls) (IsGone (flat_map (cut_loop s) ls)) (λ c k g. gone_on c k g) cs h.cuts h.gone) gone_now;
        held = all_held_on s ls cs (inl (outer_of s one, made.1, refl)) (inl (inner_of s one, made.0, refl)) h.held;
        variables = all_weaker (IsHeld ls cs) (IsHeld (flat_map (cut_loop s) ls) (cs ++ s ∷ [])) (λ x k. held_on s ls cs x k) xs h.variables;
        dimensions = dimensions_on h.dim dim' 0 xs (all_weaker (λ x. is_among first x ≡ true) (λ x. dim' x ≡ h.dim x) (λ x taken. dim_on x (h.used_first x taken)) xs h.used_variables) h.dimensions;
        kept = (λ x taken. w_on x (h.used_first x taken) ∙ h.kept x taken);
        used_first = (λ x taken. used_on x (h.used_first x taken));
        used_numbers = all_both (λ q. is_among used' q.name ≡ true) h.rs (halves s (numbers_named h.rs s.whole).count)
            (all_weaker (λ q. is_among used q.name ≡ true) (λ q. is_among used' q.name ≡ true) (λ q taken. used_on q.name taken) h.rs h.used_numbers) (used_outer, (used_inner, tt));
        used_variables = h.used_variables;
        others = (λ y taken other.
            let used_up = h.used_first y taken in
            found_later h.rs (halves s (numbers_named h.rs s.whole).count) y (h.others y taken other)
            ∙ half_none s (numbers_named h.rs s.whole).count y (λ e. apart_names used y s.outer used_up new_outer (sym e)) (λ e. apart_names used y s.inner used_up new_inner (sym e)));
      }
