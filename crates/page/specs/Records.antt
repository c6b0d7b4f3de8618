-- Records: their bytes, and the one at the front of the bytes that are left.
--   record_bytes k p   a record of kind k with the payload p: length, kind, payload
--   Rec                a record that is read, by its kind, with its payload
--   kind_of            the number of its kind
--   payload            its payload
--   size_of            how long a payload of its kind is
--   frame              its bytes
--   Front              why the record at the front is refused, or that record and the bytes after it
--   known k p          the record of kind k, if the kind is known
--   sized              the record, if there is one and the length is its kind's
--   front              the record at the front of some bytes
use Rattle.std.specs.Prelude.{ℕ, ◌+◌, ◌*◌, cond, List, [], ◌∷◌, ◌++◌, length, take, drop, Some, None, Option, ◌==◌, nat_lt}
use Rattle.page.specs.declared.fault.PageCause.{PageCause}
use Rattle.page.specs.declared.fault.PageCause.TheVariants.{CutRecord, StrangeKind, WrongLength}
use Rattle.page.specs.Little.{le}

abbrev pub record_bytes : ℕ → List ℕ → List ℕ
record_bytes k p = le 2 (length p) ++ (le 2 k ++ p)

pub data Rec : Type 0 where
  start_rec : List ℕ → Rec
  plain_rec : List ℕ → Rec
  corner_rec : List ℕ → Rec
  order_rec : List ℕ → Rec

abbrev pub kind_of : Rec → ℕ
kind_of (start_rec p) = 1
kind_of (plain_rec p) = 2
kind_of (corner_rec p) = 3
kind_of (order_rec p) = 4

abbrev pub payload : Rec → List ℕ
payload (start_rec p) = p
payload (plain_rec p) = p
payload (corner_rec p) = p
payload (order_rec p) = p

abbrev pub size_of : Rec → ℕ
size_of (start_rec p) = 4
size_of (plain_rec p) = 8
size_of (corner_rec p) = 8
size_of (order_rec p) = 14

abbrev pub frame : Rec → List ℕ
frame r = record_bytes (kind_of r) (payload r)

pub data Front : Type 0 where
  bad : PageCause → Front
  one : Rec → List ℕ → Front

abbrev pub known : ℕ → List ℕ → Option Rec
known k p =
    cond (k == 1) (Some (start_rec p))
    (cond (k == 2) (Some (plain_rec p))
    (cond (k == 3) (Some (corner_rec p))
    (cond (k == 4) (Some (order_rec p)) None)))

abbrev pub sized : ℕ → List ℕ → Option Rec → Front
sized n rest None = bad StrangeKind
sized n rest (Some r) = cond (n == size_of r) (one r (drop n rest)) (bad WrongLength)

abbrev pub front : List ℕ → Front
front [] = bad CutRecord
front (a ∷ []) = bad CutRecord
front (a ∷ b ∷ []) = bad CutRecord
front (a ∷ b ∷ c ∷ []) = bad CutRecord
front (l0 ∷ l1 ∷ k0 ∷ k1 ∷ rest) =
    cond (nat_lt (length rest) (l0 + l1 * 256)) (bad CutRecord) (sized (l0 + l1 * 256) rest (known (k0 + k1 * 256) (take (l0 + l1 * 256) rest)))
