-- What is known at a line, as memory has it.
use Rattle.std.specs.Prelude.{◌≡◌, ℕ, ◌||◌, Bool, List, [], ◌∷◌, ◌++◌, map}
use Rattle.std.specs.List.{list_any}
use Rattle.std.specs.Borrow.{Bor}
use Rattle.plan.specs.declared.certificate.cert.Window.{Window}
use Rattle.plan.specs.Plan.{Statement}
use Rattle.soundness.specs.Origins.{Outline}
use Rattle.soundness.specs.Obligations.{Buffer, Updating, Known, Rules, span_has, binder_has, places_have, region_of, more_binders, more_buffers}
use Rattle.soundness.specs.Binders.View.{binders_of}
use Rattle.obligations.specs.declared.context.known.Buffer.{Buffer as BufferHeld}
use Rattle.obligations.specs.declared.context.known.Nest.{Nest}
use Rattle.obligations.specs.declared.context.known.Known.{Known as KnownHeld}

abbrev pub buffer_of : BufferHeld → Buffer
buffer_of x = record { name = x.name; places = x.places.now }

-- those in memory are given from the outermost on, the others from the innermost on
abbrev pub buffers_of : List BufferHeld → List Buffer
buffers_of [] = []
buffers_of (x ∷ xs) = buffers_of xs ++ buffer_of x ∷ []

-- windows in memory
abbrev pub windows_of : List (Bor Window) → List Window
windows_of ws = map (λ w. w.now) ws

abbrev pub nest_of : Nest → Updating
nest_of u = record { before = u.before; next = u.next }

-- what is known, with the nests that are under way
abbrev pub known_of : KnownHeld → List Nest → Known
known_of k us = record {
  binders = binders_of k.binders.items;
  buffers = buffers_of k.buffers.items;
  claims = k.claims.items;
  own = k.own.items;
  updating = map nest_of us;
}

-- what the statement binds for the lines after it is added, and nothing else changes
abbrev pub IsBound : Outline → Rules → Statement → KnownHeld → KnownHeld → Type 0
IsBound outline rules a old new =
    (binders_of new.binders.items ≡ more_binders outline rules a (binders_of old.binders.items)) × (buffers_of new.buffers.items ≡ more_buffers outline rules a (buffers_of old.buffers.items))
    × (new.claims.items ≡ old.claims.items) × (new.own.items ≡ old.own.items)

-- a symbol that stands in what is known
abbrev pub around_has : Outline → Rules → ℕ → Known → Bool
around_has outline rules i known =
    list_any (binder_has i) known.binders
    || (list_any (λ b. list_any (places_have i) b.places) known.buffers
    || (list_any (λ c. list_any (span_has i) (region_of outline rules c)) known.claims
    || list_any (λ u. list_any (span_has i) (region_of outline rules u.before) || list_any (span_has i) (region_of outline rules u.next)) known.updating))
