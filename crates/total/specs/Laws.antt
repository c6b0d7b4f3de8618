-- The laws of a kind of total.
--   limit      the greatest error that a chord may have
--   Held n a   a is joined from the values of n errors, none above the limit
--   Laws       what every kind keeps, asked only where each total, joined ones too, has at most 511 chords
use Rattle.std.specs.Prelude.{◌≡◌, ℕ, ◌+◌, ◌≤◌, Bool, true, ◌⊎◌}

abbrev pub limit : ℕ
limit = 68719476735

module _ {A : Type 0} (start : A) (value : ℕ → A) (join : A → A → A) where
  pub data Held : ℕ → A → Type 0 where
    none : Held 0 start
    one : {e : ℕ} → e ≤ limit → Held 1 (value e)
    both : {m n : ℕ} {a b : A} → Held m a → Held n b → Held (m + n) (join a b)

module _ {A : Type 0} (start : A) (value : ℕ → A) (join : A → A → A) (order : A → A → Bool) where
  abbrev H : ℕ → A → Type 0
  H = Held start value join

  pub record Laws : Type 0 where
    -- the order is total, and equal totals alone stand both ways
    pub either : {k m : ℕ} {a b : A} → H k a → H m b → k ≤ 511 → m ≤ 511 → (order a b ≡ true) ⊎ (order b a ≡ true)
    pub same : {k m : ℕ} {a b : A} → H k a → H m b → k ≤ 511 → m ≤ 511 → order a b ≡ true → order b a ≡ true → a ≡ b
    pub trans : {k m n : ℕ} {a b c : A} → H k a → H m b → H n c → k ≤ 511 → m ≤ 511 → n ≤ 511 → order a b ≡ true → order b c ≡ true → order a c ≡ true
    -- the join is associative, and the start is neutral on both sides
    pub assoc : {k m n : ℕ} {a b c : A} → H k a → H m b → H n c → k + m + n ≤ 511 → join (join a b) c ≡ join a (join b c)
    pub left : {k : ℕ} {a : A} → H k a → k ≤ 511 → join start a ≡ a
    pub right : {k : ℕ} {a : A} → H k a → k ≤ 511 → join a start ≡ a
    -- if a is not above b, joining the same c to both, before or after, keeps that
    pub before : {k m n : ℕ} {a b c : A} → H k a → H m b → H n c → n + k ≤ 511 → n + m ≤ 511 → order a b ≡ true → order (join c a) (join c b) ≡ true
    pub after : {k m n : ℕ} {a b c : A} → H k a → H m b → H n c → k + n ≤ 511 → m + n ≤ 511 → order a b ≡ true → order (join a c) (join b c) ≡ true
