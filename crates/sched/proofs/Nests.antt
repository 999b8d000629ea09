-- Nests one behind another.
use Rattle.std.proofs.Common.{◌≡◌, ℕ, ◌+◌, ◌<◌, List, [], ◌∷◌, ◌++◌, length, map, drop, drop-cons, add-one, get_or, Option, Some, None, refl, sym, ap, ◌∙◌, append_assoc}
use Rattle.sched.specs.declared.numbers.Numbers.{Numbers}
use Rattle.sched.specs.declared.nest.Body.{Body}
use Rattle.sched.specs.declared.nest.Nest.{Nest}
use Rattle.sched.specs.Placing.{PlacedText}
use Rattle.sched.specs.Standing.{◌>>=◌, StandingText}
use Rattle.sched.specs.Skeleton.{BodyText, NestText, body_of, nest_seen, begun, nest_in, nest_of, nests_in}
use Rattle.sched.proofs.Turns.{map_pushed}

-- behind those that are there
abbrev pub behind : List NestText → List NestText → Option (List NestText)
behind found more = Some (found ++ more)

pub behind_none : (o : Option (List NestText)) → (o >>= behind []) ≡ o
behind_none (Some x) = refl
behind_none None = refl

pushed : (o : Option (List NestText)) (found : List NestText) (one : NestText) → (o >>= λ nests. Some (one ∷ nests)) >>= behind found ≡ (o >>= behind (found ++ one ∷ []))
pushed (Some x) found one = ap (λ (ys : List NestText). Some ys) (sym (append_assoc found (one ∷ []) x))
pushed None found one = refl

module _ (xs : List (List ℕ)) (p : PlacedText) (rs : List Numbers) (head : StandingText) (bodies : List Body) (i : ℕ) (d : Body) (lt : i < length bodies) (next : ℕ) where
  -- the next nest
  pub nest_next : (st : StandingText) (found : List Nest) (one : Nest) (all : List Nest) → nest_in xs p rs (body_of (get_or bodies i d)) (begun next head) ≡ Some st → nest_seen one ≡ nest_of xs (body_of (get_or bodies i d)) st → all ≡ found ++ one ∷ [] →
      (nests_in xs p rs head (map body_of (drop i bodies)) next >>= behind (map nest_seen found)) ≡ (nests_in xs p rs head (map body_of (drop (i + 1) bodies)) st.next >>= behind (map nest_seen all))
  nest_next st found one all is seen was =
      let here : nests_in xs p rs head (map body_of (drop i bodies)) next ≡ (nests_in xs p rs head (map body_of (drop (i + 1) bodies)) st.next >>= λ nests. Some (nest_seen one ∷ nests)) = rw (drop-cons bodies i d lt, add-one, is, seen) refl in
      let grown : map nest_seen all ≡ map nest_seen found ++ nest_seen one ∷ [] = ap (map nest_seen) was ∙ map_pushed nest_seen found one in
      rw (here, grown) (pushed (nests_in xs p rs head (map body_of (drop (i + 1) bodies)) st.next) (map nest_seen found) (nest_seen one))

  -- no next nest
  pub nest_none : (found : List Nest) → nest_in xs p rs (body_of (get_or bodies i d)) (begun next head) ≡ None → (nests_in xs p rs head (map body_of (drop i bodies)) next >>= behind (map nest_seen found)) ≡ None
  nest_none found is = rw (drop-cons bodies i d lt, is) refl
