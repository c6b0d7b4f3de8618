-- How long a record of kept points is.
use Rattle.std.proofs.Common.{◌≡◌, ℕ, ◌+◌, ◌*◌, ◌<◌, ◌≤◌, true, false, List, length, refl, arith}
use Rattle.std.proofs.lemmas.Bool.{lt-ltb, le-ltb}
use Rattle.page.specs.declared.kinds.Totals.{Totals}
use Rattle.page.specs.Little.{le}
use Rattle.page.specs.Answers.{kept_payload, kept_bytes, kept_fits}
use Rattle.page.proofs.Putting.{joined_length}

pub payload_length : (n : ℕ) (t : Totals) (ks : List ℕ) → length (kept_payload n t ks) ≡ 20 + 2 * length ks
payload_length n t ks = let j = joined_length (le 2) 2 (λ _. refl) ks in omega arith

pub bytes_length : (n : ℕ) (t : Totals) (ks : List ℕ) → length (kept_bytes n t ks) ≡ 24 + 2 * length ks
bytes_length n t ks = let j = payload_length n t ks in omega arith

pub kept_fits_where_short : (n : ℕ) (t : Totals) (ks : List ℕ) → length ks ≤ 32757 → kept_fits n t ks ≡ true
kept_fits_where_short n t ks h = let j = payload_length n t ks in lt-ltb (length (kept_payload n t ks)) 65536 (omega arith)

pub kept_long : (n : ℕ) (t : Totals) (ks : List ℕ) → 32757 < length ks → kept_fits n t ks ≡ false
kept_long n t ks h = let j = payload_length n t ks in le-ltb (length (kept_payload n t ks)) 65536 (omega arith)
