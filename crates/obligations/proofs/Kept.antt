-- The windows that a loop keeps.
use Rattle.std.proofs.Common.{◌≡◌, ℕ, Bool, true, false, List, [], ◌∷◌, refl, sym, ap, ◌∙◌, arith}
use Rattle.std.specs.Prelude.{◌==◌, ◌&&◌, filter, not, if◌then◌else◌}
use Rattle.std.proofs.lemmas.Bool.Decides.{nat_tests}
use Rattle.plan.specs.Plan.{Statement, Seq, For, Let, First, Guard, Alloc, Fetch, Store, Publish}
use Rattle.plan.specs.declared.certificate.cert.Window.{Window}
use Rattle.soundness.specs.Origins.{Outline}
use Rattle.soundness.specs.Claims.{is_update}
use Rattle.soundness.specs.Obligations.{Rules, kept_of, stands_alone, without}
use Rattle.soundness.specs.Outline.Kept.{is_alone_in}

-- a loop over the symbol, whose body begins at the line, keeps the window
abbrev pub is_kept : Outline → ℕ → Statement → ℕ → Window → Bool
is_kept outline i body line w = (w.symbol == i) && is_alone_in outline w body line

filter_with : (p q : Window → Bool) (ws : List Window) → ((w : Window) → p w ≡ q w) → filter p ws ≡ filter q ws
filter_with p q ws h = ap (λ (f : Window → Bool). filter f ws) (λ i w. h w i)

none_of : (p : Window → Bool) (ws : List Window) → ((w : Window) → p w ≡ false) → filter p ws ≡ []
none_of p [] h = refl
none_of p (w ∷ ws) h = ap (λ (b : Bool). if b then w ∷ filter p ws else filter p ws) (h w) ∙ none_of p ws h

never : (b : Bool) → (b && false) ≡ false
never true = refl
never false = refl

-- of the loop's own symbol
own : (f : ℕ → Bool) (s i : ℕ) (b : Bool) → (s == i) ≡ b → (b && f i) ≡ (b && f s)
own f s i true e = ap f (same s i e)
  where
    same : (s i : ℕ) → (s == i) ≡ true → i ≡ s
    same s i e = grind (arith, nat_tests, e)
own f s i false e = refl

pub kept_is : (outline : Outline) (rules : Rules) (i : ℕ) (body : Statement) (line : ℕ) → kept_of outline rules i body line ≡ filter (is_kept outline i body line) outline.windows
kept_is outline rules i (Seq row) line =
    filter_with (λ w. (w.symbol == i) && (not (is_update (outline.claim w.claim).definition) && stands_alone outline i w.claim row line)) (is_kept outline i (Seq row) line) outline.windows
    (λ w. own (λ s. not (is_update (outline.claim w.claim).definition) && stands_alone outline s w.claim row line) w.symbol i (w.symbol == i) refl)
kept_is outline rules i (For j x kind body) line = sym (none_of (is_kept outline i (For j x kind body) line) outline.windows (λ w. never (w.symbol == i)))
kept_is outline rules i (Let j pick ls) line = sym (none_of (is_kept outline i (Let j pick ls) line) outline.windows (λ w. never (w.symbol == i)))
kept_is outline rules i (First j a b) line = sym (none_of (is_kept outline i (First j a b) line) outline.windows (λ w. never (w.symbol == i)))
kept_is outline rules i (Guard low high body) line = sym (none_of (is_kept outline i (Guard low high body) line) outline.windows (λ w. never (w.symbol == i)))
kept_is outline rules i (Alloc b f places) line = sym (none_of (is_kept outline i (Alloc b f places) line) outline.windows (λ w. never (w.symbol == i)))
kept_is outline rules i (Fetch b g region) line = sym (none_of (is_kept outline i (Fetch b g region) line) outline.windows (λ w. never (w.symbol == i)))
kept_is outline rules i (Store b k at e) line = sym (none_of (is_kept outline i (Store b k at e) line) outline.windows (λ w. never (w.symbol == i)))
kept_is outline rules i (Publish c) line = sym (none_of (is_kept outline i (Publish c) line) outline.windows (λ w. never (w.symbol == i)))

-- without any claim all windows are left
pub all_left : (ws : List Window) → without [] ws ≡ ws
all_left [] = refl
all_left (w ∷ ws) = ap (λ (xs : List Window). w ∷ xs) (all_left ws)
