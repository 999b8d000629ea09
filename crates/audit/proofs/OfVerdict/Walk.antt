-- All forms that a piece comes to are narrow.
use Rattle.std.proofs.Common.{◌≡◌, ℕ, zero, suc, ◌+◌, ◌/◌, ◌^◌, ◌<◌, ◌≤◌, Bool, true, false, List, [], ◌∷◌, ◌++◌, length, Option, Some, None, refl, sym, ◌∙◌, subst, arith}
use Rattle.std.specs.Prelude.{ℤ, pos, neg_ℤ, ◌==◌, ◌||◌, ◌&&◌, ◌-◌, ◌≤ℤ◌, if◌then◌else◌, int_le, MatchOption}
use Rattle.std.specs.List.{AllByRecursion, list_any, list_all, range_with_len}
use Rattle.std.proofs.Math.Nat.{div-le_self, mod-add-div}
use Rattle.std.proofs.lemmas.Bool.Decides.{nat_tests}
use Rattle.std.proofs.lemmas.Int.{ints}
use Rattle.std.proofs.lemmas.List.Elements.{All-from_recursion}
use Rattle.lin.specs.Forms.{Form, number, IsWithin}
use Rattle.lin.specs.declared.form.Multiple.{Multiple}
use Rattle.lin.specs.declared.span.Span1.{Span1}
use Rattle.plan.specs.declared.stmt.Places.{Places}
use Rattle.plan.specs.declared.stmt.Places.TheVariants.{From, Folded}
use Rattle.plan.specs.declared.stmt.Pick.{Pick}
use Rattle.plan.specs.declared.stmt.Pick.TheVariants.{Min, Max}
use Rattle.plan.specs.Plan.{Index, At, Found, Coordinate, Statement, Seq, For, Let, First, Guard, Alloc, Fetch, Store, Publish, Statements, Empty, Then, Group}
use Rattle.plan.specs.Symbols.{Symbols, bind, form_value, largest, turns}
use Rattle.plan.specs.Certificate.Cells.{grid_point, grid_symbols, grid_value, group_pieces, no_symbols, own_region}
use Rattle.plan.specs.Certificate.Certificate.{Certificate}
use Rattle.plan.specs.Semantics.Actions.{after}
use Rattle.soundness.specs.Claims.{In}
use Rattle.soundness.specs.Obligations.{Binder, Ranged, Picked, Passed, picked, Lies, Respects, Rules, Suited, binder_has, exactly, form_has, span_has}
use Rattle.soundness.specs.Shown.{is_within}
use Rattle.soundness.specs.Origins.{Given}
use Rattle.soundness.proofs.Forms.{turn_lies, lies_on, picked_same, respects_on}
use Rattle.soundness.proofs.Refines.{and_parts, eq_refl}
use Rattle.soundness.specs.Binders.View.{grid_binders, grid_from, grid_span}
use Rattle.interpreter.specs.Narrow.{FormIsNarrow, SpanIsNarrow, RegionIsNarrow, PlacesAreNarrow, IndexIsNarrow, StatementIsNarrow, BlockIsNarrow, OwnIsNarrow, PieceIsNarrow}
use Rattle.headline.proofs.Members.{in_of}
use Rattle.plan.specs.Lines.{lines}
use Rattle.rules.specs.Widths.Widths.{alone, are_near_places, binders_after, block_wide_lines, from_to, is_i32, is_near, is_near_form, has_few_turns, is_near_span, line_unless, or_line, store_lines, wide_lines}
use Rattle.validation.specs.Groups.Lines.{symbols_after}
use Rattle.audit.proofs.OfVerdict.Grid.{grid_respected, respects_both}
use Rattle.audit.specs.Verdict.Bounded.Near.{is_over, FormStands, SpanStands, PlacesStand, IndexStands, HasForms, HasFormsInBlock, grid_numbers, GroupIsNear, NearIsNarrow}
use Rattle.audit.proofs.OfVerdict.Size.{is_one, AreNear, TermsAreNear, form_is_narrow, region_narrow, AreAmong, among_more, FormsAreOver, IsOver, forms_over_of, over_of, form_over, forms_over, span_over, or_none, form_free, forms_free, span_free, symbol_free}

-- ---- one symbol more

other_value : (s : Symbols) (i : ℕ) (z : ℤ) (b : Bool) (j : ℕ) → (j == i) ≡ false → (bind s i z b).value j ≡ s.value j
other_value s i z b j h = rw h refl

or_same : (v : Bool) → (v || false) ≡ true → v ≡ true
or_same true h = refl
or_same false h = h

or_first : (v w : Bool) → v ≡ true → (v || w) ≡ true
or_first true w h = refl
or_first false w h = absurd (cc h)

or_second : (v w : Bool) → w ≡ true → (v || w) ≡ true
or_second true w h = refl
or_second false w h = h

one_last : (i : ℕ) (symbols : List ℕ) → is_one i (symbols ++ i ∷ []) ≡ true
one_last i [] = or_first (i == i) false (eq_refl i)
one_last i (x ∷ xs) = or_second (x == i) (is_one i (xs ++ i ∷ [])) (one_last i xs)

-- the binders are of these symbols, and over them
abbrev pub AreOver : List ℕ → List Binder → Type 0
AreOver symbols [] = Unit {0}
AreOver symbols (Ranged i x ∷ bs) = (is_one i symbols ≡ true) × IsOver symbols x × AreOver symbols bs
AreOver symbols (Picked i pick ls ∷ bs) = (is_one i symbols ≡ true) × FormsAreOver symbols ls × AreOver symbols bs
AreOver symbols (Passed low high ∷ bs) = (is_over symbols low ≡ true) × (is_over symbols high ≡ true) × AreOver symbols bs

binders_over : (few many : List ℕ) → AreAmong few many → (bs : List Binder) → AreOver few bs → AreOver many bs
binders_over few many among [] h = tt
binders_over few many among (Ranged j x ∷ bs) h = (among j h.0, span_over few many among x h.1, binders_over few many among bs h.2)
binders_over few many among (Picked j pick ls ∷ bs) h = (among j h.0, forms_over few many among ls h.1, binders_over few many among bs h.2)
binders_over few many among (Passed low high ∷ bs) h = (form_over few many among low h.0, form_over few many among high h.1, binders_over few many among bs h.2)

binders_free : (i : ℕ) (symbols : List ℕ) → is_one i symbols ≡ false → (bs : List Binder) → AreOver symbols bs → list_any (binder_has i) bs ≡ false
binders_free i symbols new [] h = refl
binders_free i symbols new (Ranged j x ∷ bs) h =
    or_none ((j == i) || span_has i x) (list_any (binder_has i) bs) (or_none (j == i) (span_has i x) (symbol_free i symbols new j h.0) (span_free i symbols new x h.1)) (binders_free i symbols new bs h.2)
binders_free i symbols new (Picked j pick ls ∷ bs) h =
    or_none ((j == i) || list_any (form_has i) ls) (list_any (binder_has i) bs) (or_none (j == i) (list_any (form_has i) ls) (symbol_free i symbols new j h.0) (forms_free i symbols new ls h.1)) (binders_free i symbols new bs h.2)
binders_free i symbols new (Passed low high ∷ bs) h =
    or_none (form_has i low || form_has i high) (list_any (binder_has i) bs) (or_none (form_has i low) (form_has i high) (form_free i symbols new low h.0) (form_free i symbols new high h.1)) (binders_free i symbols new bs h.2)

-- ---- lists of lines

pub none_both : (xs ys : List ℕ) → xs ++ ys ≡ [] → (xs ≡ []) × (ys ≡ [])
none_both [] ys h = (refl, h)
none_both (x ∷ xs) ys h = absurd (cc h)

some_line : (line : ℕ) (ns : List ℕ) → or_line line ns ≡ [] → ⊥
some_line line [] h = absurd (cc h)
some_line line (n ∷ ns) h = absurd (cc h)

-- where lines with a body have no line told, what is asked of their own forms holds, and the body has none
pub near_ends : (v : Bool) (line : ℕ) (some inside : List ℕ) → (if v then inside else or_line line some) ≡ [] → (v ≡ true) × (inside ≡ [])
near_ends true line some inside h = (refl, h)
near_ends false line some inside h = absurd (some_line line some h)

pub none_unless : (v : Bool) (line : ℕ) → line_unless v line ≡ [] → v ≡ true
none_unless true line h = refl
none_unless false line h = absurd (cc h)

-- ---- the grid

starts : (a j : ℕ) (v more : Bool) → (a == j) ≡ v → a ≤ j → (a + 1 ≤ j → more ≡ true) → (v || more) ≡ true
starts a j true more e low h = refl
starts a j false more e low h = h (above a j e low)
  where
    above : (a j : ℕ) → (a == j) ≡ false → a ≤ j → a + 1 ≤ j
    above a j e low = grind (arith, nat_tests)

in_range : (a n j : ℕ) → a ≤ j → j < a + n → is_one j (range_with_len a n) ≡ true
in_range a zero j low high = absurd (omega (arith, low, high))
in_range a (suc n) j low high = starts a j (a == j) (is_one j (range_with_len (a + 1) n)) refl low (λ l. in_range (a + 1) n j l (omega (arith, high)))

over_append : (symbols : List ℕ) (bs cs : List Binder) → AreOver symbols bs → AreOver symbols cs → AreOver symbols (bs ++ cs)
over_append symbols [] cs h k = k
over_append symbols (Ranged j x ∷ bs) cs h k = (h.0, h.1, over_append symbols bs cs h.2 k)
over_append symbols (Picked j pick ls ∷ bs) cs h k = (h.0, h.1, over_append symbols bs cs h.2 k)
over_append symbols (Passed low high ∷ bs) cs h k = (h.0, h.1, over_append symbols bs cs h.2 k)

grid_over : (i : ℕ) (ns symbols : List ℕ) → ((j : ℕ) → i ≤ j → j < i + length ns → is_one j symbols ≡ true) → AreOver symbols (grid_from i ns)
grid_over i [] symbols h = tt
grid_over i (n ∷ ns) symbols h =
    over_append symbols (grid_from (i + 1) ns) (Ranged i (grid_span n) ∷ []) (grid_over (i + 1) ns symbols (λ j a b. h j (omega (arith, a)) (omega (arith, b))))
    (h i (omega arith) (omega arith), record { lower = (refl, tt); upper = (refl, tt) }, tt)

grid_near : (grid : List ℕ) (k m : ℕ) → k ≤ m → (j : ℕ) → IsWithin m (grid_value (grid_point grid k) j)
grid_near [] k m h j = omega arith
grid_near (n ∷ ns) k m h zero = let parts = mod-add-div k n in omega (arith, parts, h)
grid_near (n ∷ ns) k m h (suc j) = let less = div-le_self k n in grid_near ns (k / n) m (omega (arith, less, h)) j

-- ---- statements

map_match : {A : Type 0} (P Q : A → Type 0) (o : Option A) → ((a : A) → P a → Q a) → MatchOption o (Unit {0}) P → MatchOption o (Unit {0}) Q
map_match P Q None f h = tt
map_match P Q (Some a) f h = f a h

module _ (given : Given) (rules : Rules) (c : Certificate) (n : ℕ) (g : Group) (begins : ℕ) (suited : Suited given rules) (is : GroupIsNear rules c n g begins) where
  abbrev Own : Symbols → Type 0
  Own = OwnIsNarrow c n g

  -- what holds at a statement
  pub record Here (symbols : List ℕ) (bs : List Binder) (s : Symbols) : Type 0 where
    pub respects : Respects bs s
    pub near : AreNear (grid_numbers g.grid) s
    pub over : AreOver symbols bs
    pub grid : AreAmong (grid_numbers g.grid) symbols

  -- what is shown to lie between two numbers does
  pub between : (bs : List Binder) (f : Form) (low high : ℤ) (s : Symbols) → is_within rules bs (exactly f) (from_to low high) ≡ true → Respects bs s → (low ≤ℤ form_value f s) × (form_value f s ≤ℤ high)
  between bs f low high s h r =
      let below = rules.at_most bs (number low) f in
      let above = rules.at_most bs f (number high) in
      let p = and_parts ((below || false) && true) ((above || false) && true) h in
      let a = suited.ordered bs (number low) f s (or_same below (and_parts (below || false) true p.0).0) r in
      let b = suited.ordered bs f (number high) s (or_same above (and_parts (above || false) true p.1).0) r in
      (omega (arith, ints, a), omega (arith, ints, b))

  index_near : (i : ℕ) (bs : List Binder) (s : Symbols) → is_near rules bs i ≡ true → Respects bs s → IsWithin (2 ^ 39) (s.value i)
  index_near i bs s h r = let p = between bs (alone i) (neg_ℤ (pos (2 ^ 39))) (pos (2 ^ 39)) s h r in omega (arith, ints, p)

  module _ (bs : List Binder) (s : Symbols) (r : Respects bs s) where
    terms_near : (ts : List Multiple) → list_all (λ (t : Multiple). is_near rules bs t.symbol) ts ≡ true → TermsAreNear ts s
    terms_near [] h = tt
    terms_near (t ∷ ts) h =
        let k = and_parts (is_near rules bs t.symbol) (list_all (λ (u : Multiple). is_near rules bs u.symbol) ts) h in
        (index_near t.symbol bs s k.0 r, terms_near ts k.1)

    form_near : (symbols : List ℕ) (f : Form) → FormStands symbols f → is_near_form rules bs f ≡ true → FormIsNarrow s f
    form_near symbols f h k = form_is_narrow s f h.limits (terms_near f.terms k)

    forms_near : (symbols : List ℕ) (fs : List Form) → AllByRecursion (FormStands symbols) fs → list_all (is_near_form rules bs) fs ≡ true → AllByRecursion (FormIsNarrow s) fs
    forms_near symbols [] h k = tt
    forms_near symbols (f ∷ fs) h k =
        let p = and_parts (is_near_form rules bs f) (list_all (is_near_form rules bs) fs) k in
        (form_near symbols f h.0 p.0, forms_near symbols fs h.1 p.1)

    span_near : (symbols : List ℕ) (x : Span1) → SpanStands symbols x → is_near_span rules bs x ≡ true → SpanIsNarrow s x
    span_near symbols x h k =
        let p = and_parts (list_all (is_near_form rules bs) x.lower) (list_all (is_near_form rules bs) x.upper) k in
        record {
          lower = All-from_recursion (FormIsNarrow s) x.lower (forms_near symbols x.lower h.lower p.0);
          upper = All-from_recursion (FormIsNarrow s) x.upper (forms_near symbols x.upper h.upper p.1);
        }

    spans_near : (symbols : List ℕ) (xs : List Span1) → AllByRecursion (SpanStands symbols) xs → list_all (is_near_span rules bs) xs ≡ true → AllByRecursion (SpanIsNarrow s) xs
    spans_near symbols [] h k = tt
    spans_near symbols (x ∷ xs) h k =
        let p = and_parts (is_near_span rules bs x) (list_all (is_near_span rules bs) xs) k in (span_near symbols x h.0 p.0, spans_near symbols xs h.1 p.1)

    place_near : (symbols : List ℕ) (a : Places) → PlacesStand symbols a → are_near_places rules bs a ≡ true → PlacesAreNarrow s a
    place_near symbols (From l n) h k = form_near symbols l h k
    place_near symbols (Folded n) h k = tt

    places_near : (symbols : List ℕ) (xs : List Places) → AllByRecursion (PlacesStand symbols) xs → list_all (are_near_places rules bs) xs ≡ true → AllByRecursion (PlacesAreNarrow s) xs
    places_near symbols [] h k = tt
    places_near symbols (x ∷ xs) h k =
        let p = and_parts (are_near_places rules bs x) (list_all (are_near_places rules bs) xs) k in (place_near symbols x h.0 p.0, places_near symbols xs h.1 p.1)

    -- a coordinate that is shown to be an i32 is a 64-bit number, whatever its symbols are
    index_small : (symbols : List ℕ) (i : Index) → IndexStands symbols i → is_i32 rules bs i ≡ true → IndexIsNarrow s i
    index_small symbols (At l) h k =
        let p = between bs l (neg_ℤ (pos (2 ^ 31))) (pos (2 ^ 31 - 1)) s k r in
        record { limits = h.limits; value = record { from = omega (arith, ints, p); to = omega (arith, ints, p) } }
    index_small symbols (Found e) h k = tt

    indices_small : (symbols : List ℕ) (at : List Coordinate) → AllByRecursion (λ c. IndexStands symbols c.index) at → list_all (λ c. is_i32 rules bs c.index) at ≡ true → AllByRecursion (λ c. IndexIsNarrow s c.index) at
    indices_small symbols [] h k = tt
    indices_small symbols (c ∷ cs) h k =
        let p = and_parts (is_i32 rules bs c.index) (list_all (λ d. is_i32 rules bs d.index) cs) k in (index_small symbols c.index h.0 p.0, indices_small symbols cs h.1 p.1)

  -- a new symbol is bound, and its binder holds
  bound : (i : ℕ) (symbols : List ℕ) (b : Binder) (bs : List Binder) (s : Symbols) (z : ℤ) (first : Bool) → Here symbols bs s → is_one i symbols ≡ false →
      Respects (b ∷ []) (bind s i z first) → AreOver (symbols ++ i ∷ []) (b ∷ []) → Here (symbols ++ i ∷ []) (b ∷ bs) (bind s i z first)
  bound i symbols b bs s z first h new holds over = record {
    respects = respects_both (b ∷ []) bs (bind s i z first) holds (respects_on s i z first bs (binders_free i symbols new bs h.over) h.respects);
    near = λ j k. subst (IsWithin (2 ^ 39)) (sym (other_value s i z first j (symbol_free i symbols new j (h.grid j k)))) (h.near j k);
    over = over_append (symbols ++ i ∷ []) (b ∷ []) bs over (binders_over symbols (symbols ++ i ∷ []) (among_more i symbols) bs h.over);
    grid = λ j k. among_more i symbols j (h.grid j k);
  }

  own_value : (s : Symbols) (i : ℕ) (z : ℤ) (first : Bool) → (bind s i z first).value i ≡ z
  own_value s i z first = rw (eq_refl i) refl

  pub turn : (i : ℕ) (x : Span1) (symbols : List ℕ) (bs : List Binder) (s : Symbols) (z : ℤ) (b : Bool) → Here symbols bs s → SpanStands symbols x → is_one i symbols ≡ false →
      In z (turns s x) → Here (symbols ++ i ∷ []) (Ranged i x ∷ bs) (bind s i z b)
  turn i x symbols bs s z b h stands new m =
      let over = over_of symbols x stands in
      let lies : Lies (bind s i z b) x ((bind s i z b).value i) =
      subst (Lies (bind s i z b) x) (sym (own_value s i z b)) (lies_on s i z b x z (span_free i symbols new x over) (turn_lies s x z m)) in
      bound i symbols (Ranged i x) bs s z b h new (lies, tt) (one_last i symbols, span_over symbols (symbols ++ i ∷ []) (among_more i symbols) x over, tt)

  -- behind a line `let`
  behind_let : (i : ℕ) (pick : Pick) (ls : List Form) (symbols : List ℕ) (bs : List Binder) (s : Symbols) → Here symbols bs s → AllByRecursion (FormStands symbols) ls → is_one i symbols ≡ false →
      Here (symbols ++ i ∷ []) (Picked i pick ls ∷ bs) (bind s i (picked pick ls s) true)
  behind_let i pick ls symbols bs s h stand new =
      let over = forms_over_of symbols ls stand in
      let z = picked pick ls s in
      let holds : (bind s i z true).value i ≡ picked pick ls (bind s i z true) = own_value s i z true ∙ sym (picked_same s i z true pick ls (forms_free i symbols new ls over)) in
      bound i symbols (Picked i pick ls) bs s z true h new (holds, tt) (one_last i symbols, forms_over symbols (symbols ++ i ∷ []) (among_more i symbols) ls over, tt)

  -- inside a guard that holds
  pub inside_guard : (low high : Form) (symbols : List ℕ) (bs : List Binder) (s : Symbols) → Here symbols bs s → FormStands symbols low → FormStands symbols high →
      int_le (form_value low s) (form_value high s) ≡ true → Here symbols (Passed low high ∷ bs) s
  inside_guard low high symbols bs s h l u e =
      record { respects = (at_most (form_value low s) (form_value high s) e, h.respects); near = h.near; over = (l.over, u.over, h.over); grid = h.grid }
    where
      at_most : (a b : ℤ) → int_le a b ≡ true → a ≤ℤ b
      at_most a b e = grind (arith, ints)

  -- behind a statement of a block
  pub behind : (a : Statement) (symbols : List ℕ) (bs : List Binder) (s : Symbols) → Here symbols bs s → HasForms a symbols → Here (symbols_after a symbols) (binders_after a bs) (after a s)
  behind (Seq all) symbols bs s h k = h
  behind (For i x kind body) symbols bs s h k = h
  behind (Let i Min ls) symbols bs s h k = behind_let i Min ls symbols bs s h k.0 k.1
  behind (Let i Max ls) symbols bs s h k = behind_let i Max ls symbols bs s h k.0 k.1
  behind (First i a b) symbols bs s h k = h
  behind (Guard low high body) symbols bs s h k = h
  behind (Alloc b f places) symbols bs s h k = h
  behind (Fetch b j region) symbols bs s h k = h
  behind (Store b j at e) symbols bs s h k = h
  behind (Publish j) symbols bs s h k = h

  none_near : AreNear [] no_symbols
  none_near i h = absurd (cc h)

  own_narrow : (symbols : List ℕ) (bs : List Binder) (s : Symbols) → Here symbols bs s → Own s
  own_narrow symbols bs s h = record {
    own = map_match (AllByRecursion (SpanStands (grid_numbers g.grid))) (RegionIsNarrow s) (own_region c.own n) (λ xs k. region_narrow (grid_numbers g.grid) s h.near xs k) is.own;
    group = region_narrow [] no_symbols none_near g.region is.region;
  }

  mutual
    narrow : (a : Statement) (symbols : List ℕ) (bs : List Binder) (line : ℕ) (s : Symbols) → Here symbols bs s → HasForms a symbols → wide_lines rules bs line a ≡ [] → StatementIsNarrow Own a s
    narrow (Seq all) symbols bs line s h k f = narrow_block all symbols bs line s h k f
    narrow (For i x kind body) symbols bs line s h k f =
        let short = line_unless (has_few_turns rules bs x kind) line in
        let near = near_ends (is_near_span rules bs x) line (store_lines (line + 1) body) (short ++ wide_lines rules (Ranged i x ∷ bs) (line + 1) body) f in
        let inner = none_both short (wide_lines rules (Ranged i x ∷ bs) (line + 1) body) near.1 in (
          span_near bs s h.respects symbols x k.0 near.0,
          (λ z m. narrow body (symbols ++ i ∷ []) (Ranged i x ∷ bs) (line + 1) (bind s i z (int_le z (largest s x.lower)))
              (turn i x symbols bs s z (int_le z (largest s x.lower)) h k.0 k.1 (in_of (turns s x) z m)) k.2 inner.1),
        )
    narrow (Let i pick ls) symbols bs line s h k f =
        All-from_recursion (FormIsNarrow s) ls (forms_near bs s h.respects symbols ls k.0 (none_unless (list_all (is_near_form rules bs) ls) line f))
    narrow (First i a b) symbols bs line s h k f =
        let parts = none_both (wide_lines rules bs (line + 1) a) (wide_lines rules bs (line + 2 + lines a) b) f in
        ((λ e. narrow a symbols bs (line + 1) s h k.0 parts.0), (λ e. narrow b symbols bs (line + 2 + lines a) s h k.1 parts.1))
    narrow (Guard low high body) symbols bs line s h k f =
        let near = near_ends (is_near_form rules bs low && is_near_form rules bs high) line (store_lines (line + 1) body) (wide_lines rules (Passed low high ∷ bs) (line + 1) body) f in
        let both = and_parts (is_near_form rules bs low) (is_near_form rules bs high) near.0 in (
          form_near bs s h.respects symbols low k.0 both.0,
          form_near bs s h.respects symbols high k.1 both.1,
          (λ e. narrow body symbols (Passed low high ∷ bs) (line + 1) s (inside_guard low high symbols bs s h k.0 k.1 e) k.2 near.1),
        )
    narrow (Alloc b g places) symbols bs line s h k f =
        All-from_recursion (PlacesAreNarrow s) places (places_near bs s h.respects symbols places k (none_unless (list_all (are_near_places rules bs) places) line f))
    narrow (Fetch b j region) symbols bs line s h k f =
        All-from_recursion (SpanIsNarrow s) region (spans_near bs s h.respects symbols region k (none_unless (list_all (is_near_span rules bs) region) line f))
    narrow (Store b j at e) symbols bs line s h k f =
        All-from_recursion (λ c. IndexIsNarrow s c.index) at (indices_small bs s h.respects symbols at k (none_unless (list_all (λ c. is_i32 rules bs c.index) at) line f))
    narrow (Publish j) symbols bs line s h k f = own_narrow symbols bs s h

    narrow_block : (all : Statements) (symbols : List ℕ) (bs : List Binder) (line : ℕ) (s : Symbols) → Here symbols bs s → HasFormsInBlock all symbols → block_wide_lines rules bs line all ≡ [] → BlockIsNarrow Own all s
    narrow_block Empty symbols bs line s h k f = tt
    narrow_block (Then a rest) symbols bs line s h k f =
        let parts = none_both (wide_lines rules bs line a) (block_wide_lines rules (binders_after a bs) (line + lines a) rest) f in
        (narrow a symbols bs line s h k.0 parts.0, narrow_block rest (symbols_after a symbols) (binders_after a bs) (line + lines a) (after a s) (behind a symbols bs s h k.0) k.1 parts.1)

  -- at the beginning of a piece
  pub first_line : (k : ℕ) → k < group_pieces g → Here (grid_numbers g.grid) (grid_binders g.grid) (grid_symbols (grid_point g.grid k))
  first_line k less =
      let few = is.few in
      record {
        respects = grid_respected g.grid k less;
        near = λ j m. grid_near g.grid k (2 ^ 39) (omega (arith, few, less)) j;
        over = grid_over 0 g.grid (grid_numbers g.grid) (λ j a b. in_range 0 (length g.grid) j a b);
        grid = λ i m. m;
      }

  pub piece_narrow : (k : ℕ) → k < group_pieces g → PieceIsNarrow c n g (grid_point g.grid k)
  piece_narrow k less = narrow g.body (grid_numbers g.grid) (grid_binders g.grid) begins (grid_symbols (grid_point g.grid k)) (first_line k less) is.lines is.loops

pub near_narrow : NearIsNarrow
near_narrow given rules c n g line k suited is less = piece_narrow given rules c n g line suited is k less
