-- What a text holds.
use Rattle.std.specs.Prelude.{ℕ, List, take}
use Rattle.msar_say.specs.declared.put.Text.{Text}

-- the text that was put together so far
abbrev pub bytes_so_far : Text → List ℕ
bytes_so_far t = take t.length t.bytes
