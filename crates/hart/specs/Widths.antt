-- The widths of loads and stores, and what a load leaves in its register.
use Rattle.std.specs.Prelude.{ℕ, ◌%◌, ◌^◌}
use Rattle.bus.specs.declared.access.Width.{Width}
use Rattle.bus.specs.declared.access.Width.TheVariants.{Byte, Half, Word}
use Rattle.isa.specs.declared.kind.Load.{Load}
use Rattle.isa.specs.declared.kind.Load.TheVariants as load
use Rattle.isa.specs.declared.kind.Store.{Store}
use Rattle.isa.specs.declared.kind.Store.TheVariants as store
use Rattle.isa.specs.Fields.{sign_extended}

-- the width of a load
abbrev pub load_width : Load → Width
load_width load.Byte = Byte
load_width load.Half = Half
load_width load.Word = Word
load_width load.ByteUnsigned = Byte
load_width load.HalfUnsigned = Half

-- the width of a store
abbrev pub store_width : Store → Width
store_width store.Byte = Byte
store_width store.Half = Half
store_width store.Word = Word

-- the word that a load makes of what came, with its sign extended or with zeros
abbrev pub load_value : Load → ℕ → ℕ
load_value load.Byte v = sign_extended (2 ^ 7) (v % 2 ^ 8)
load_value load.Half v = sign_extended (2 ^ 15) (v % 2 ^ 16)
load_value load.Word v = v
load_value load.ByteUnsigned v = v % 2 ^ 8
load_value load.HalfUnsigned v = v % 2 ^ 16
