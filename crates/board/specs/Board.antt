-- The board: the CLINT below 0x10000000; from there the UART, and from 0x80000000 the RAM.
use Rattle.std.specs.Prelude.{ℕ, List, replicate}
use Rattle.bus.specs.Kind.{Kind}
use Rattle.bus.specs.Split.{split, halves}
use Rattle.devices.specs.Clint.{clint, fresh as fresh_clint}
use Rattle.devices.specs.Memory.{holding, ram}
use Rattle.devices.specs.Uart.{uart, fresh as fresh_uart}

abbrev pub board_kind : Kind
board_kind = split clint (split uart ram)

-- memory that nothing was stored in
unfoldable pub zeros : ℕ → List ℕ
zeros n = replicate n 0

-- what a board holds as it is switched on: 64 KiB of zeros, and room for 4,096 sent bytes
abbrev pub fresh_board : board_kind.Meaning
fresh_board = halves fresh_clint (halves (fresh_uart 4096) (holding 0x80000000 (zeros 65536)) 0x80000000) 0x10000000
