-- One byte more than a page may have shows that an input is too long.
use Rattle.std.proofs.Common.{◌≡◌, ℕ, ◌+◌, ◌<◌, ◌≤◌, ltb, List, [], ◌++◌, length, take, Some, None, Option, sym, ap, ◌∙◌, subst, inl, inr, arith, IfSome, append-nil, length-append, length-take-le}
use Rattle.std.specs.Io.KnownBytes.{Appends, Consumes, IsAtEnd}
use Rattle.std.proofs.lemmas.Bool.{cases_Bool, ltb-true, ltb-false, le-ltb, lt-ltb, cond-true, cond-false}
use Rattle.std.proofs.lemmas.List.{take-take, take-append-le}
use Rattle.refusal.specs.Texts.{refusal_text}
use Rattle.lines.specs.Output.{with_feed, longest, long_page, page_text, program_text}

enough : (bs read rest : List ℕ) → length read ≤ longest + 1 → bs ≡ read ++ rest → (length read < longest + 1 → rest ≡ []) → program_text read ≡ program_text bs
enough bs read rest fits all end = elim (cases_Bool (ltb longest (length read))) [
  | inl t ↦
      let long = ltb-true longest (length read) t in
      let size : length bs ≡ length read + length rest = ap length all ∙ length-append read rest in
      cond-true _ _ _ t ∙ sym (cond-true _ _ _ (lt-ltb longest (length bs) (omega arith)))
  | inr f ↦
      let short = ltb-false longest (length read) f in
      let none = end (omega arith) in
      ap program_text (sym (append-nil read) ∙ ap (λ v. read ++ v) (sym none) ∙ sym all)
]

known_enough : (known left old new : Option (List ℕ)) (read : List ℕ) → length read ≤ longest + 1 → Consumes known left read → (length read < longest + 1 → IsAtEnd left) → Appends old new (program_text read) → IfSome known (λ bs. Appends old new (program_text bs))
known_enough None left old new read fits all end p = tt
known_enough (Some bs) None old new read fits all end p = absurd all
known_enough (Some bs) (Some rest) old new read fits all end p = subst (λ v. Appends old new v) (enough bs read rest fits all end) p

-- a buffer for one byte more than a page may have, and how many of its bytes were read
module _ (buf : List ℕ) (len : ℕ) (room : length buf ≡ longest + 1) (within : len ≤ length buf) where
  size : length (take len buf) ≡ len
  size = length-take-le len buf within

  -- what is written for the bytes read is what is printed of all
  pub read_enough : (known left old new : Option (List ℕ)) → Consumes known left (take len buf) → (len < length buf → IsAtEnd left) → Appends old new (program_text (take len buf)) → IfSome known (λ bs. Appends old new (program_text bs))
  read_enough known left old new all end p = known_enough known left old new (take len buf) (omega (arith, size)) all (λ h. end (omega (arith, size))) p

  pub long_text : longest < len → with_feed (refusal_text long_page) ≡ program_text (take len buf)
  long_text h = sym (cond-true _ _ _ (lt-ltb longest (length (take len buf)) (omega (arith, size))))

  pub short_text : len ≤ longest → page_text (take len buf) ≡ program_text (take len buf)
  short_text h = sym (cond-false _ _ _ (le-ltb longest (length (take len buf)) (omega (arith, size))))

-- what a vector of m elements holds first, where its first elements were lent and written
pub front_of : (n m : ℕ) (xs ys : List ℕ) → n ≤ m → n ≤ length xs → take n (take m (xs ++ ys)) ≡ take n xs
front_of n m xs ys room long = take-take n m (xs ++ ys) room ∙ take-append-le n xs ys long
