-- Loops over the definitions of a function, turn by turn.
use Rattle.std.proofs.Common.{◌≡◌, ℕ, ◌+◌, ◌<◌, true, false, List, [], ◌∷◌, ◌++◌, length, map, drop, drop-cons, add-one, get_or, refl, sym, ap, ◌∙◌, append_assoc, string_bytes}
use Rattle.std.specs.declared.string.String.{String}
use Rattle.std.specs.Global.{Global}
use Rattle.meaning.specs.Algorithm.{Change}
use Rattle.algo.specs.declared.function.Update.{Update}
use Rattle.algo.specs.Parts.{change_of}
use Rattle.sched.specs.declared.nest.Body.{Body}
use Rattle.sched.specs.Subjects.{lacks}
use Rattle.sched.specs.Skeleton.{BodyText, missing_from, change_body, body_of}
use Rattle.sched.proofs.Turns.{map_pushed}

-- the update has no pure variable for the next dimension, or it has
pub missing_next : (u : Change) (xs : List (String Global)) (i : ℕ) (d : String Global) → i < length xs → lacks (string_bytes (get_or xs i d)) i u ≡ true → missing_from u i (map string_bytes (drop i xs)) ≡ i ∷ missing_from u (i + 1) (map string_bytes (drop (i + 1) xs))
missing_next u xs i d lt h = rw (drop-cons xs i d lt, add-one, h) refl

pub missing_not : (u : Change) (xs : List (String Global)) (i : ℕ) (d : String Global) → i < length xs → lacks (string_bytes (get_or xs i d)) i u ≡ false → missing_from u i (map string_bytes (drop i xs)) ≡ missing_from u (i + 1) (map string_bytes (drop (i + 1) xs))
missing_not u xs i d lt h = rw (drop-cons xs i d lt, add-one, h) refl

-- what is known of the next update is added
pub body_next : (names : List (List ℕ)) (us : List Update) (i : ℕ) (d : Update) → i < length us → (found pushed : List Body) (one : Body) (whole : List BodyText) → body_of one ≡ change_body names (change_of (get_or us i d)) → pushed ≡ found ++ one ∷ [] →
    map body_of found ++ map (change_body names) (map change_of (drop i us)) ≡ whole → map body_of pushed ++ map (change_body names) (map change_of (drop (i + 1) us)) ≡ whole
body_next names us i d lt found pushed one whole is was h =
    let rest = map (change_body names) (map change_of (drop (i + 1) us)) in
    let grown : map body_of pushed ≡ map body_of found ++ body_of one ∷ [] = ap (map body_of) was ∙ map_pushed body_of found one in
    let next : map (change_body names) (map change_of (drop i us)) ≡ change_body names (change_of (get_or us i d)) ∷ rest = rw (drop-cons us i d lt, add-one) refl in
    rw (grown, append_assoc (map body_of found) (body_of one ∷ []) rest, is) (ap (λ (ys : List BodyText). map body_of found ++ ys) (sym next) ∙ h)
