-- Where a statement stands, in memory.
use Rattle.std.specs.Prelude.{Bool}
use Rattle.validation.specs.Groups.Lines.{Here}
use Rattle.validation.specs.declared.groups.here.Here.{Here as HereHeld}
use Rattle.validation.specs.declared.stored.lines.GroupLines.{GroupLines}

abbrev pub here_of : GroupLines → HereHeld → Bool → Here
here_of group h last = record {
  group = group;
  line = h.line;
  symbols = h.symbols.items;
  loops = h.loops.items;
  buffers = h.buffers.items;
  used = h.used;
  bound = h.bound;
  held = h.held;
  fetching = h.fetching;
  last = last;
}
