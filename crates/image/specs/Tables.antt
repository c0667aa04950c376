-- The segments of an image as records.
use Rattle.std.specs.Prelude.{ℕ, if◌then◌else◌, List, ◌==◌}
use Rattle.image.specs.Headers.{header_at, table_count}
use Rattle.image.specs.Records.{Records}

-- load segments by address and memory size; any other segment has size 0
abbrev pub segment_records : List ℕ → Records
segment_records s =
    record {
      count = table_count s;
      at = λ i. record { start = (header_at s i).vaddr; size = if (header_at s i).kind == 1 then (header_at s i).memsz else 0 };
    }
