-- What was noted of a plan's groups suffices for the pieces of each.
use Rattle.std.proofs.Common.{◌≡◌, ℕ, zero, suc, ◌+◌, ◌<◌, ◌≤◌, List, [], ◌∷◌, ◌++◌, length, map, get_or, Some, arith, refl, sym, ap, ◌∙◌, subst, inl, inr}
use Rattle.std.specs.Prelude.{All, option_map, slice_get}
use Rattle.std.specs.Global.{Vec}
use Rattle.std.proofs.lemmas.Bool.{cases_lt}
use Rattle.std.proofs.lemmas.List.{append-nil, append_assoc, length-append}
use Rattle.std.proofs.lemmas.Option.{same_Some, slice_get-get_or, slice_get-map}
use Rattle.plan.specs.Plan.{Group}
use Rattle.plan.specs.View.{group_of}
use Rattle.plan.specs.declared.plan.Group.{Group as CodeGroup}
use Rattle.plan.specs.Certificate.Certificate.{Certificate}
use Rattle.plan.specs.Certificate.Cells.{no_symbols}
use Rattle.plan.specs.Semantics.Setting.{allocated, dimensions_in}
use Rattle.interpreter.specs.Bindings.{Bindings, symbols_of}
use Rattle.interpreter.specs.Buffers.Blocks.{limits_of, HasMemoryFor}
use Rattle.interpreter.specs.declared.buffers.limit.Limit.{Limit}
use Rattle.interpreter.specs.declared.needs.Needs.{Needs}
use Rattle.interpreter.specs.declared.sizes.Size.{Size}
use Rattle.interpreter.specs.declared.state.State.{State}
use Rattle.interpreter.specs.Needs.{allotments, call_indices, coordinate_count, own_count, symbol_count, Kept, Space, StatementFits, StatementIsShort}
use Rattle.interpreter.specs.declared.scratch.Scratch.{Scratch}
use Rattle.interpreter.specs.Scratches.{IsAgain, IsMadeFor, IsNotedFor, IsScratchForAll, Suffices}
use Rattle.interpreter.specs.LineCodes.{codes_at, StatementIsCoded}
use Rattle.interpreter.specs.declared.line_codes.LineCode.{LineCode}
use Rattle.interpreter.specs.Sizes.{size_in, sizes_at}
use Rattle.interpreter.specs.States.{space_of}
use Rattle.interpreter.proofs.Fitting.{fits, All-front, All-back, IsEnough}

-- what was noted, of grids of at most so many counts, with the sizes of each group's buffers, has what the pieces of a group need
pub record Holds (c : Certificate) (needs : Needs) (counts : ℕ) (noted : List (Vec Size)) (lines : List (Vec LineCode)) (n : ℕ) (g : Group) : Type 0 where
  pub before : List Limit
  pub after : List Limit
  pub limits : needs.limits.items ≡ before ++ (allotments g.body ++ after)
  pub symbols : symbol_count g.body ≤ needs.symbols
  pub own : own_count c n ≤ needs.coordinates
  pub coordinates : coordinate_count g.body ≤ needs.coordinates
  pub indices : call_indices g.body ≤ needs.indices
  pub short : StatementIsShort g.body
  pub grid : length g.grid ≤ counts
  pub sizes : (b : ℕ) → size_in (sizes_at noted n) b ≡ dimensions_in (allocated g.body b)
  pub coded : StatementIsCoded (codes_at lines n) g.body

-- of the first groups, so many
pub record HoldsFirst (c : Certificate) (gs : List Group) (needs : Needs) (counts : ℕ) (sizes : List (Vec Size)) (lines : List (Vec LineCode)) (i : ℕ) : Type 0 where
  pub long : length sizes ≡ i
  pub as_long : length lines ≡ i
  pub each : (n : ℕ) (g : Group) → n < i → slice_get gs n ≡ Some g → Holds c needs counts sizes lines n g

pub none_noted : (c : Certificate) (gs : List Group) (needs : Needs) (sizes : List (Vec Size)) (lines : List (Vec LineCode)) → sizes ≡ [] → lines ≡ [] → HoldsFirst c gs needs 0 sizes lines 0
none_noted c gs needs sizes lines e f = record {
  long = ap (λ (xs : List (Vec Size)). length xs) e;
  as_long = ap (λ (xs : List (Vec LineCode)). length xs) f;
  each = λ n g lt at. absurd (omega (arith, lt));
}

-- ---- places of a list

there : (xs : List (Vec Size)) (v : Vec Size) (n : ℕ) → n < length xs → sizes_at (xs ++ v ∷ []) n ≡ sizes_at xs n
there [] v n lt = absurd (omega (arith, lt))
there (x ∷ xs) v zero lt = refl
there (x ∷ xs) v (suc n) lt = there xs v n (omega (arith, lt))

last : (xs : List (Vec Size)) (v : Vec Size) (n : ℕ) → n ≡ length xs → sizes_at (xs ++ v ∷ []) n ≡ v.items
last [] v zero e = refl
last [] v (suc n) e = absurd (omega (arith, e))
last (x ∷ xs) v zero e = absurd (omega (arith, e))
last (x ∷ xs) v (suc n) e = last xs v n (omega (arith, e))

codes_there : (xs : List (Vec LineCode)) (v : Vec LineCode) (n : ℕ) → n < length xs → codes_at (xs ++ v ∷ []) n ≡ codes_at xs n
codes_there [] v n lt = absurd (omega (arith, lt))
codes_there (x ∷ xs) v zero lt = refl
codes_there (x ∷ xs) v (suc n) lt = codes_there xs v n (omega (arith, lt))

codes_last : (xs : List (Vec LineCode)) (v : Vec LineCode) (n : ℕ) → n ≡ length xs → codes_at (xs ++ v ∷ []) n ≡ v.items
codes_last [] v zero e = refl
codes_last [] v (suc n) e = absurd (omega (arith, e))
codes_last (x ∷ xs) v zero e = absurd (omega (arith, e))
codes_last (x ∷ xs) v (suc n) e = codes_last xs v n (omega (arith, e))

-- ---- one group more

-- what was noted before stays
stays : (c : Certificate) (old new : Needs) (m : ℕ) (h : Group) (counts more : ℕ) (sizes : List (Vec Size)) (v : Vec Size) (lines : List (Vec LineCode)) (w : Vec LineCode) (n : ℕ) (g : Group)
    → IsNotedFor c m h old new → counts ≤ more
    → n < length sizes → n < length lines → Holds c old counts sizes lines n g → Holds c new more (sizes ++ v ∷ []) (lines ++ w ∷ []) n g
stays c old new m h counts more sizes v lines w n g k le lt few x = record {
  before = x.before;
  after = x.after ++ allotments h.body;
  limits = k.limits ∙ ap (λ (ls : List Limit). ls ++ allotments h.body) x.limits ∙ append_assoc x.before (allotments g.body ++ x.after) (allotments h.body)
      ∙ ap (λ (ls : List Limit). x.before ++ ls) (append_assoc (allotments g.body) x.after (allotments h.body));
  symbols = (let e = k.symbols in let f = x.symbols in omega (arith, e, f));
  own = (let e = k.coordinates in let f = x.own in omega (arith, e, f));
  coordinates = (let e = k.coordinates in let f = x.coordinates in omega (arith, e, f));
  indices = (let e = k.indices in let f = x.indices in omega (arith, e, f));
  short = x.short;
  grid = (let f = x.grid in omega (arith, f, le));
  sizes = λ b. ap (λ (ss : List Size). size_in ss b) (there sizes v n lt) ∙ x.sizes b;
  coded = subst (λ (cs : List LineCode). StatementIsCoded cs g.body) (sym (codes_there lines w n few)) x.coded;
}

-- what is noted now is there
comes : (c : Certificate) (old new : Needs) (counts : ℕ) (sizes : List (Vec Size)) (v : Vec Size) (lines : List (Vec LineCode)) (w : Vec LineCode) (n : ℕ) (g : Group)
    → IsNotedFor c n g old new → length g.grid ≤ counts
    → n ≡ length sizes → n ≡ length lines → ((b : ℕ) → size_in v.items b ≡ dimensions_in (allocated g.body b)) → StatementIsCoded w.items g.body
    → Holds c new counts (sizes ++ v ∷ []) (lines ++ w ∷ []) n g
comes c old new counts sizes v lines w n g k le e f sized coded = record {
  before = old.limits.items;
  after = [];
  limits = k.limits ∙ ap (λ (ls : List Limit). old.limits.items ++ ls) (sym (append-nil (allotments g.body)));
  symbols = (let f = k.symbols in omega (arith, f));
  own = (let f = k.coordinates in omega (arith, f));
  coordinates = (let f = k.coordinates in omega (arith, f));
  indices = (let f = k.indices in omega (arith, f));
  short = k.short;
  grid = le;
  sizes = λ b. ap (λ (ss : List Size). size_in ss b) (last sizes v n e) ∙ sized b;
  coded = subst (λ (cs : List LineCode). StatementIsCoded cs g.body) (sym (codes_last lines w n f)) coded;
}

pub one_noted : (c : Certificate) (gs : List Group) (old new : Needs) (counts more : ℕ) (sizes : List (Vec Size)) (v : Vec Size) (lines : List (Vec LineCode)) (w : Vec LineCode) (i : ℕ) (g : Group)
    → slice_get gs i ≡ Some g → IsNotedFor c i g old new → counts ≤ more → length g.grid ≤ more → ((b : ℕ) → size_in v.items b ≡ dimensions_in (allocated g.body b)) → StatementIsCoded w.items g.body
    → HoldsFirst c gs old counts sizes lines i → HoldsFirst c gs new more (sizes ++ v ∷ []) (lines ++ w ∷ []) (i + 1)
one_noted c gs old new counts more sizes v lines w i g at k le grid sized coded h = record {
  long = length-append sizes (v ∷ []) ∙ ap (λ n. n + 1) h.long;
  as_long = length-append lines (w ∷ []) ∙ ap (λ n. n + 1) h.as_long;
  each = λ n f lt there. elim (cases_lt n i) [
    | inl less ↦ stays c old new i g counts more sizes v lines w n f k le (let e = h.long in omega (arith, e, less)) (let e = h.as_long in omega (arith, e, less)) (h.each n f less there)
    | inr past ↦ let same : n ≡ i = omega (arith, lt, past) in
        let here : g ≡ f = same_Some g f (sym at ∙ ap (λ m. slice_get gs m) (sym same) ∙ there) in
        let N : ℕ → Type 0 = λ m. Holds c new more (sizes ++ v ∷ []) (lines ++ w ∷ []) m f in
        let G : Group → Type 0 = λ x. Holds c new more (sizes ++ v ∷ []) (lines ++ w ∷ []) i x in
        subst N (sym same) (subst G here (comes c old new more sizes v lines w i g k grid (sym h.long) (sym h.as_long) sized coded))
  ];
}

-- ---- a scratch of that

-- memory for all that was noted is memory for each group
pub suffices : (c : Certificate) (needs : Needs) (counts given : ℕ) (sizes : List (Vec Size)) (lines : List (Vec LineCode)) (none symbols : Bindings) (state : State) (n : ℕ) (g : Group)
    → Holds c needs counts sizes lines n g → IsMadeFor needs given state
    → symbols_of none ≡ no_symbols → symbols.grid_room ≡ counts → symbols.room ≡ needs.symbols → Suffices (sizes_at sizes n) (codes_at lines n) none symbols (space_of state) c n g
suffices c needs counts given sizes lines none symbols state n g h made nothing grids room =
    let Q : Limit → Type 0 = λ l. HasMemoryFor (limits_of state.memory) l.buffer l.places in
    let all : All Q (h.before ++ (allotments g.body ++ h.after)) = subst (All Q) h.limits made.limits in
    let memory : All Q (allotments g.body) = All-front Q (allotments g.body) h.after (All-back Q h.before (allotments g.body ++ h.after) all) in
    let owned : own_count c n ≤ state.point.room = (let e = made.point in let f = h.own in omega (arith, e, f)) in
    let counted : 0 + symbol_count g.body ≤ symbols.room = (let f = h.symbols in omega (arith, room, f)) in
    let enough : IsEnough (space_of state) g.body = record {
      numbers = (let e = made.numbers in let f = h.coordinates in omega (arith, e, f));
      point = (let e = made.point in let f = h.coordinates in omega (arith, e, f));
      stack = (let e = made.stack in let f = h.indices in omega (arith, e, f));
    } in
    record {
      sizes = h.sizes;
      constants = nothing;
      grid = (let f = h.grid in omega (arith, grids, f));
      fits = fits (record { count = own_count c n; codes = codes_at lines n }) (space_of state) symbols.room owned g.body 0 h.short h.coded memory counted enough;
    }

-- after a run it suffices again
pub again : (c : Certificate) (gs : List Group) (old new : Scratch) → IsScratchForAll old c gs → IsAgain old new → IsScratchForAll new c gs
again c gs old new h k n g at =
    let x = h n g at in
    let kept : List (Vec LineCode) → Kept = λ all. record { count = own_count c n; codes = codes_at all n } in
    record {
      sizes = λ b. ap (λ (all : List (Vec Size)). size_in (sizes_at all n) b) k.sizes ∙ x.sizes b;
      constants = ap symbols_of k.constants ∙ x.constants;
      grid = subst (λ (m : ℕ). length g.grid ≤ m) (sym k.grid) x.grid;
      fits = subst (λ (w : Space). StatementFits (kept new.codes.items) w new.symbols.room g.body 0) (sym k.space)
          (subst (λ (m : ℕ). StatementFits (kept new.codes.items) (space_of old.state) m g.body 0) (sym k.symbols)
          (subst (λ (all : List (Vec LineCode)). StatementFits (kept all) (space_of old.state) old.symbols.room g.body 0) (sym k.codes) x.fits));
    }

-- ---- groups of a plan

-- the group that stands at a place
pub group_at : (gs : List CodeGroup) (i : ℕ) (x : CodeGroup) → i < length gs → x ≡ get_or gs i x → slice_get (map group_of gs) i ≡ Some (group_of x)
group_at gs i x lt is = slice_get-map group_of gs i ∙ ap (option_map group_of) (slice_get-get_or gs i x lt) ∙ ap (λ (y : CodeGroup). Some (group_of y)) (sym is)
