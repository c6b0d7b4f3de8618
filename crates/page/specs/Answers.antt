-- The records that answer a stroke.
--   kept_payload    stroke number in four bytes, two total fields in eight each, kept numbers in two each
--   kept_bytes      the record of kept points, kind 5
--   kept_fits       the payload is short enough for the two bytes of its length
--   refused_bytes   the record of a refusal, kind 6: stroke number in four bytes, refusal and place in two each
use Rattle.std.specs.Prelude.{ℕ, Bool, List, ◌++◌, length, nat_lt}
use Rattle.std.specs.List.{flat_map}
use Rattle.page.specs.declared.kinds.Totals.{Totals}
use Rattle.page.specs.Little.{le}
use Rattle.page.specs.Records.{record_bytes}

abbrev pub kept_payload : ℕ → Totals → List ℕ → List ℕ
kept_payload n t ks = le 4 n ++ (le 8 t.first ++ (le 8 t.second ++ flat_map (le 2) ks))

abbrev pub kept_bytes : ℕ → Totals → List ℕ → List ℕ
kept_bytes n t ks = record_bytes 5 (kept_payload n t ks)

abbrev pub kept_fits : ℕ → Totals → List ℕ → Bool
kept_fits n t ks = nat_lt (length (kept_payload n t ks)) 65536

abbrev pub refused_bytes : ℕ → ℕ → ℕ → List ℕ
refused_bytes n c p = record_bytes 6 (le 4 n ++ (le 2 c ++ le 2 p))
