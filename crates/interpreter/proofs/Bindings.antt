-- One more of the bound symbols.
use Rattle.std.proofs.Common.{◌≡◌, ◌≢◌, ℕ, zero, suc, ◌+◌, ◌<◌, List, [], ◌∷◌, ◌++◌, take, length, get_or, Bool, true, false, refl, sym, ap, ◌∙◌, arith, Some, None, Ok, Err, ℤ, pos, slice_get, append_assoc}
use Rattle.std.specs.Prelude.{◌==◌, if◌then◌else◌, OnOk, Result}
use Rattle.std.proofs.lemmas.List.{take_more, append-nil}
use Rattle.std.proofs.Math.Seq.{take-append_seam}
use Rattle.std.proofs.lemmas.Bool.Decides.{nat_tests}
use Rattle.lin.specs.Forms.{Form}
use Rattle.plan.specs.declared.stmt.Pick.{Pick}
use Rattle.plan.specs.declared.stmt.Pick.TheVariants.{Min, Max}
use Rattle.plan.specs.Plan.{Let}
use Rattle.plan.specs.Symbols.{Symbols, bind}
use Rattle.plan.specs.Certificate.Cells.{grid_value, grid_symbols}
use Rattle.plan.specs.Semantics.Actions.{after}
use Rattle.interpreter.specs.declared.symbols.Binding.{Binding}
use Rattle.interpreter.specs.Bindings.{Bindings, bind_all, symbols_of, also, Extends, named_value}

pub bind_all-push : (s : Symbols) (bs : List Binding) (b : Binding) → bind_all s (bs ++ b ∷ []) ≡ bind (bind_all s bs) b.symbol b.value b.first
bind_all-push s [] b = refl
bind_all-push s (x ∷ xs) b = bind_all-push (bind s x.symbol x.value x.first) xs b

bind_all_more : (s : Symbols) (bs : List Binding) (i : ℕ) (d : Binding) → i < length bs → bind_all s (take (i + 1) bs) ≡ bind (bind_all s (take i bs)) (get_or bs i d).symbol (get_or bs i d).value (get_or bs i d).first
bind_all_more s bs i d lt = ap (bind_all s) (take_more bs i d lt) ∙ bind_all-push s (take i bs) (get_or bs i d)

equal : (m n : ℕ) → m ≡ n → (m == n) ≡ true
equal m n h = grind (arith, nat_tests)

different : (m n : ℕ) → m ≢ n → (m == n) ≡ false
different m n h = grind (arith, nat_tests)

pub value_same : (s : Symbols) (bs : List Binding) (i : ℕ) (d : Binding) (j : ℕ) → i < length bs → j ≡ (get_or bs i d).symbol → (get_or bs i d).value ≡ (bind_all s (take (i + 1) bs)).value j
value_same s bs i d j lt e =
    ap (λ (t : Bool). if t then (get_or bs i d).value else (bind_all s (take i bs)).value j) (sym (equal j (get_or bs i d).symbol e)) ∙ ap (λ (t : Symbols). t.value j) (sym (bind_all_more s bs i d lt))

pub value_other : (s : Symbols) (bs : List Binding) (i : ℕ) (d : Binding) (j : ℕ) → i < length bs → j ≢ (get_or bs i d).symbol → (bind_all s (take i bs)).value j ≡ (bind_all s (take (i + 1) bs)).value j
value_other s bs i d j lt e =
    ap (λ (t : Bool). if t then (get_or bs i d).value else (bind_all s (take i bs)).value j) (sym (different j (get_or bs i d).symbol e)) ∙ ap (λ (t : Symbols). t.value j) (sym (bind_all_more s bs i d lt))

pub first_same : (s : Symbols) (bs : List Binding) (i : ℕ) (d : Binding) (j : ℕ) → i < length bs → j ≡ (get_or bs i d).symbol → (get_or bs i d).first ≡ (bind_all s (take (i + 1) bs)).first j
first_same s bs i d j lt e =
    ap (λ (t : Bool). if t then (get_or bs i d).first else (bind_all s (take i bs)).first j) (sym (equal j (get_or bs i d).symbol e)) ∙ ap (λ (t : Symbols). t.first j) (sym (bind_all_more s bs i d lt))

pub first_other : (s : Symbols) (bs : List Binding) (i : ℕ) (d : Binding) (j : ℕ) → i < length bs → j ≢ (get_or bs i d).symbol → (bind_all s (take i bs)).first j ≡ (bind_all s (take (i + 1) bs)).first j
first_other s bs i d j lt e =
    ap (λ (t : Bool). if t then (get_or bs i d).first else (bind_all s (take i bs)).first j) (sym (different j (get_or bs i d).symbol e)) ∙ ap (λ (t : Symbols). t.first j) (sym (bind_all_more s bs i d lt))

-- a coordinate of a grid point
pub grid_value_some : (at : List ℕ) (i n : ℕ) → slice_get at i ≡ Some n → grid_value at i ≡ pos n
grid_value_some [] i n h = absurd (cc)
grid_value_some (m ∷ ms) zero n h = let e : m ≡ n = cc in ap pos e
grid_value_some (m ∷ ms) (suc i) n h = grid_value_some ms i n h

pub grid_value_none : (at : List ℕ) (i : ℕ) → slice_get at i ≡ None → grid_value at i ≡ pos 0
grid_value_none [] i h = refl
grid_value_none (m ∷ ms) zero h = absurd (cc)
grid_value_none (m ∷ ms) (suc i) h = grid_value_none ms i h

after_let : (i : ℕ) (k : Pick) (ls : List Form) (s : Symbols) → bind s i (named_value k s ls) true ≡ after (Let i k ls) s
after_let i Min ls s = refl
after_let i Max ls s = refl

pub named_after : (old new : Bindings) (b : Binding) (i : ℕ) (k : Pick) (ls : List Form) → new ≡ also old b → b.symbol ≡ i → b.value ≡ named_value k (symbols_of old) ls → b.first ≡ true
    → symbols_of new ≡ after (Let i k ls) (symbols_of old)
named_after old new b i k ls is e f g =
    ap symbols_of is ∙ bind_all-push (grid_symbols old.grid) old.bound b ∙ (λ j. bind (symbols_of old) (e j) (f j) (g j)) ∙ after_let i k ls (symbols_of old)

pub on_ok : {T E : Type 0} (r : Result T E) (P Q : Type 0) → (P → Q) → OnOk r P → OnOk r Q
on_ok (Ok x) P Q f h = f h
on_ok (Err e) P Q f h = tt

-- what is bound behind the others goes away with them
pub kept : (old new : Bindings) → Extends old new → record { grid = new.grid; bound = take (length old.bound) new.bound; grid_room = new.grid_room; room = new.room } ≡ old
kept old new x = λ j. record { grid = x.grid j; bound = (ap (take (length old.bound)) x.bound ∙ take-append_seam old.bound x.more) j; grid_room = x.grid_room j; room = x.room j }

pub extends_same : (x : Bindings) → Extends x x
extends_same x = record { grid = refl; more = []; bound = sym (append-nil x.bound); grid_room = refl; room = refl }

pub extends_both : (x y z : Bindings) → Extends x y → Extends y z → Extends x z
extends_both x y z h k = record { grid = k.grid ∙ h.grid; more = h.more ++ k.more; bound = k.bound ∙ ap (λ (l : List Binding). l ++ k.more) h.bound ∙ append_assoc x.bound h.more k.more; grid_room = k.grid_room ∙ h.grid_room; room = k.room ∙ h.room }

pub extends_also : (old new : Bindings) (b : Binding) → new ≡ also old b → Extends old new
extends_also old new b e = record { grid = ap (λ (x : Bindings). x.grid) e; more = b ∷ []; bound = ap (λ (x : Bindings). x.bound) e; grid_room = ap (λ (x : Bindings). x.grid_room) e; room = ap (λ (x : Bindings). x.room) e }

-- the symbols where one more is bound
pub bound_now : (old new : Bindings) (b : Binding) (i : ℕ) (z : ℤ) (f : Bool) → new ≡ also old b → b ≡ record { symbol = i; value = z; first = f } → symbols_of new ≡ bind (symbols_of old) i z f
bound_now old new b i z f is e = ap symbols_of is ∙ bind_all-push (grid_symbols old.grid) old.bound b ∙ ap (λ (x : Binding). bind (symbols_of old) x.symbol x.value x.first) e

-- one more symbol bound, and forgotten again
pub forgotten : (old now : Bindings) (b : Binding) (k : ℕ) → now ≡ also old b → k ≡ length old.bound → record { grid = now.grid; bound = take k now.bound; grid_room = now.grid_room; room = now.room } ≡ old
forgotten old now b k is e = (λ j. record { grid = now.grid; bound = take (e j) now.bound; grid_room = now.grid_room; room = now.room }) ∙ kept old now (extends_also old now b is)
