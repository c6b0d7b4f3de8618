-- A point's record, byte by byte.
use Rattle.std.proofs.Common.{◌≡◌, ℕ, ◌/◌, ◌%◌, ◌^◌, ◌<◌, List, [], ◌∷◌, get_or, sym, refl, ap, ◌∙◌, w16, SFits, of_z, rules}
use native.Mathlib.Nat.{div-div-eq-div-mul}
use Rattle.std.proofs.lemmas.Int.{to_z-of_z}
use Rattle.tray.specs.declared.point.Mark.{Mark}
use Rattle.tray.specs.declared.point.Mark.TheVariants.{Plain, Corner}
use Rattle.page.specs.declared.kinds.Point.{Point}
use Rattle.page.specs.Strokes.{mark_kind, point_payload, point_bytes}
use Rattle.page.proofs.encode.point_record.Goals as goal

marked : (m : Mark) (bs : List ℕ) → 8 ∷ 0 ∷ mark_kind m ∷ 0 ∷ bs ≡ 8 ∷ 0 ∷ mark_kind m % 256 ∷ mark_kind m / 256 % 256 ∷ bs
marked Plain bs = refl
marked Corner bs = refl

-- the bytes of a number, by one division or several
low : (n : ℕ) → n / 65536 % 256 ≡ n / 256 / 256 % 256
low n = ap (λ m. m % 256) (sym (div-div-eq-div-mul n 256 256))

high : (n : ℕ) → n / 16777216 % 256 ≡ n / 256 / 256 / 256 % 256
high n = ap (λ m. m % 256) (sym (ap (λ m. m / 256) (div-div-eq-div-mul n 256 256) ∙ div-div-eq-div-mul n 65536 256))

whole : (p : Point) (k u v : ℕ) (xs ys ts : List ℕ) → k ≡ mark_kind p.mark → xs ≡ u % 256 ∷ u / 256 % 256 ∷ [] → u ≡ of_z w16 p.x → ys ≡ v % 256 ∷ v / 256 % 256 ∷ [] → v ≡ of_z w16 p.y → ts ≡ p.t % 256 ∷ p.t / 256 % 256 ∷ p.t / 65536 % 256 ∷ p.t / 16777216 % 256 ∷ [] → 8 ∷ 0 ∷ k ∷ 0 ∷ get_or xs 0 0 ∷ get_or xs 1 0 ∷ get_or ys 0 0 ∷ get_or ys 1 0 ∷ get_or ts 0 0 ∷ get_or ts 1 0 ∷ get_or ts 2 0 ∷ get_or ts 3 0 ∷ [] ≡ point_bytes p
whole p k u v xs ys ts ek ex eu ey ev et =
    (λ i. 8 ∷ 0 ∷ ek i ∷ 0 ∷ get_or (ex i) 0 0 ∷ get_or (ex i) 1 0 ∷ get_or (ey i) 0 0 ∷ get_or (ey i) 1 0 ∷ get_or (et i) 0 0 ∷ get_or (et i) 1 0 ∷ get_or (et i) 2 0 ∷ get_or (et i) 3 0 ∷ [])
    ∙ (λ i. 8 ∷ 0 ∷ mark_kind p.mark ∷ 0 ∷ eu i % 256 ∷ eu i / 256 % 256 ∷ ev i % 256 ∷ ev i / 256 % 256 ∷ p.t % 256 ∷ p.t / 256 % 256 ∷ low p.t i ∷ high p.t i ∷ [])
    ∙ marked p.mark (point_payload p)

pub returns : goal.returns
returns c =
    let fx : SFits w16 c.args.p.x = search rules in
    let fy : SFits w16 c.args.p.y = search rules in
    let ft : c.args.p.t < 2 ^ 32 = search rules in
    record {
      bytes = whole c.args.p _ _ _ _ _ _ (c.from-kind.ensures ∙ c.from.ensures) c.to_le_bytes.ensures (ap (of_z w16) (to_z-of_z w16 c.args.p.x fx)) c.to_le_bytes-2.ensures (ap (of_z w16) (to_z-of_z w16 c.args.p.y fy)) c.to_le_bytes-3.ensures;
      fits = record { x = fx; y = fy; t = ft };
    }
