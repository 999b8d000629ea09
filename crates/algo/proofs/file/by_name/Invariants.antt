use Rattle.std.proofs.Common.{◌≡◌, [], ◌++◌, length}
use Rattle.std.specs.String.{string_eq}
use Rattle.std.specs.Vec.Iter.{into_iter_items, into_iter_len}
use Rattle.indexmap.specs.IndexMap.{insert_all}
use Rattle.algo.proofs.file.by_name.Given as goal

abbrev pub invariant-loop-name : goal.invariant-loop-name
invariant-loop-name l = (l.map.entries ≡ insert_all string_eq [] l.yielded)
    × (l.yielded ++ into_iter_items l.name-iterator ≡ into_iter_items l.initial.name-iterator)
    × (into_iter_len l.name-iterator ≡ length (into_iter_items l.name-iterator))
