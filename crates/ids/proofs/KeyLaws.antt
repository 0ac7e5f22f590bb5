-- Laws of keys: a key and its parts settle each other, and the lattice shows in the three lowest bits.
-- Assumes nothing.
use Rattle.std.specs.Prelude.{Ok, Err, Result}
use mathlib.Core.Path.{◌≡◌, refl, sym, ap, ◌∙◌}
use mathlib.Core.Bool.{Bool, true, false, cond, ◌||◌}
use Prim.Native.Nat.{ℕ, suc, ◌/◌, ◌%◌, ◌<◌}
use native.Mathlib.Omega.{arith}
use lib.Dec.{eqb}
use borrow.Author.Tests.{eq-eqb, ne_eqb, eqb-true}
use Rattle.lists.proofs.Bools.{and_first, and_second}
use lib.Pow.{field, mod-mod-pow}
use native.Mathlib.Nat.{mod-mod}
use Rattle.lists.proofs.Table.{below, same, same→eq}
use Rattle.refusals.specs.declared.Refusal.{Refusal}
use Rattle.refusals.specs.declared.Refusal.TheVariants.{OffLattice}
use Rattle.ids.specs.Morton.{respaced, gather}
use Rattle.ids.specs.declared.Cells.{Cells}
use Rattle.ids.specs.Key.{key_of, head_of, x_of, y_of, z_of, same_parity, on_lattice, made_of, decoded_of}
use Rattle.ids.proofs.MortonLaws.{gather_x, gather_y, gather_z, gather_small, morton_gather, morton_small}

-- a coordinate of a key has 16 bits
pub coord_small : (m : ℕ) → gather 16 m < 65536
coord_small m = gather_small 16 m

-- the parts of a made key are what it was made of
module _ (head x y z : ℕ) where
  pub head_of_key : head_of (key_of head x y z) ≡ head
  head_of_key = omega (arith, morton_small 16 x y z)

  pub x_of_key : x < 65536 → x_of (key_of head x y z) ≡ x
  x_of_key l = gather_x 16 head x y z l

  pub y_of_key : y < 65536 → y_of (key_of head x y z) ≡ y
  y_of_key l = gather_y 16 head x y z l

  pub z_of_key : z < 65536 → z_of (key_of head x y z) ≡ z
  z_of_key l = gather_z 16 head x y z l

-- a key made of its own parts is the key
pub key_of_parts : (k : ℕ) → key_of (head_of k) (x_of k) (y_of k) (z_of k) ≡ k
key_of_parts k = morton_gather 16 k

-- keys are equal where their parts are
pub same_key : (k l : ℕ) → head_of k ≡ head_of l → x_of k ≡ x_of l → y_of k ≡ y_of l → z_of k ≡ z_of l → k ≡ l
same_key k l h x y z = sym (key_of_parts k) ∙ rw (h, x, y, z) (key_of_parts l)

-- and made keys only where what they were made of is
pub record SameParts (h x y z h' x' y' z' : ℕ) : Type 0 where
  pub heads : h ≡ h'
  pub xs : x ≡ x'
  pub ys : y ≡ y'
  pub zs : z ≡ z'

pub same_parts : (h x y z h' x' y' z' : ℕ)
    → x < 65536
    → y < 65536
    → z < 65536
    → x' < 65536
    → y' < 65536
    → z' < 65536
    → key_of h x y z ≡ key_of h' x' y' z'
    → SameParts h x y z h' x' y' z'
same_parts h x y z h' x' y' z' lx ly lz lx' ly' lz' e =
    record {
      heads = sym (head_of_key h x y z) ∙ ap head_of e ∙ head_of_key h' x' y' z';
      xs = sym (x_of_key h x y z lx) ∙ ap x_of e ∙ x_of_key h' x' y' z' lx';
      ys = sym (y_of_key h x y z ly) ∙ ap y_of e ∙ y_of_key h' x' y' z' ly';
      zs = sym (z_of_key h x y z lz) ∙ ap z_of e ∙ z_of_key h' x' y' z' lz';
    }

-- the lowest bit of what is gathered
gather_odd : (n m : ℕ) → gather (suc n) m % 2 ≡ m % 2
unfolding respaced
gather_odd n m = omega arith

-- the bits of the low three, one by one
low_x : (k : ℕ) → k % 8 % 2 ≡ k % 2
low_x k = mod-mod-pow k 2 1

low_y : (k : ℕ) → k % 8 / 2 % 2 ≡ k / 2 % 2
low_y k = rw (field k 2 1) (mod-mod-pow (k / 2) 1 1)

low_z : (k : ℕ) → k % 8 / 4 % 2 ≡ k / 4 % 2
low_z k = rw (field k 1 2) (mod-mod (k / 4) 2)

-- all even or all odd: the three low bits are 0 or 7
even_or_odd : ℕ → Bool
even_or_odd r = same (same_parity r (r / 2) (r / 4)) (eqb r 0 || eqb r 7)

low_bits : (r : ℕ) → r < 8 → same_parity r (r / 2) (r / 4) ≡ (eqb r 0 || eqb r 7)
unfolding even_or_odd same_parity
low_bits r l = same→eq _ _ (below even_or_odd 8 tt r l)

pub lattice_by_low_bits : (k : ℕ) → on_lattice k ≡ (eqb (k % 8) 0 || eqb (k % 8) 7)
unfolding same_parity
lattice_by_low_bits k =
    rw (gather_odd 15 k, gather_odd 15 (k / 2), gather_odd 15 (k / 4), ← low_x k, ← low_y k, ← low_z k) (low_bits (k % 8) (omega arith))

-- parity, test by test
module _ (x y z : ℕ) where
  pub off_xy : (x % 2 ≡ y % 2 → ⊥) → same_parity x y z ≡ false
  unfolding same_parity
  off_xy n = rw (ne_eqb (x % 2) (y % 2) n)

  pub off_yz : x % 2 ≡ y % 2 → (y % 2 ≡ z % 2 → ⊥) → same_parity x y z ≡ false
  unfolding same_parity
  off_yz e n = rw (eq-eqb (x % 2) (y % 2) e, ne_eqb (y % 2) (z % 2) n)

  pub on_xyz : x % 2 ≡ y % 2 → y % 2 ≡ z % 2 → same_parity x y z ≡ true
  unfolding same_parity
  on_xyz e f = rw (eq-eqb (x % 2) (y % 2) e, eq-eqb (y % 2) (z % 2) f)

  pub same_parity_lem : same_parity x y z ≡ true → (x % 2 ≡ y % 2) × (y % 2 ≡ z % 2)
  unfolding same_parity
  same_parity_lem e =
      let p = eqb (x % 2) (y % 2) in
      let q = eqb (y % 2) (z % 2) in
      (eqb-true _ _ (and_first p q e), eqb-true _ _ (and_second p q e))

-- a key that the constructor makes is on the lattice
pub made_on_lattice : (head x y z : ℕ) → x < 65536 → y < 65536 → z < 65536 → on_lattice (key_of head x y z) ≡ same_parity x y z
made_on_lattice head x y z lx ly lz = rw (x_of_key head x y z lx, y_of_key head x y z ly, z_of_key head x y z lz)

-- what the constructor made is decoded to what it was made of
made_key : (b : Bool) (n k : ℕ) → cond b (Ok n) (Err OffLattice) ≡ Ok k → (b ≡ true) × (n ≡ k)
made_key true n k e = (refl, cc)
made_key false n k e = let z : ◌≡◌ {A = ℕ} 0 1 = cc in let no : ⊥ = omega arith in absurd no

module _ (head x y z k : ℕ) (lx : x < 65536) (ly : y < 65536) (lz : z < 65536) (e : made_of head x y z ≡ Ok k) where
  key_made : key_of head x y z ≡ k
  key_made = (made_key (same_parity x y z) (key_of head x y z) k e).1

  pub decoded_made : decoded_of k ≡ Ok (record { 0 = x }, record { 0 = y }, record { 0 = z })
  decoded_made =
      rw (
        ← key_made,
        made_on_lattice head x y z lx ly lz,
        (made_key (same_parity x y z) (key_of head x y z) k e).0,
        x_of_key head x y z lx,
        y_of_key head x y z ly,
        z_of_key head x y z lz,
      )

  pub head_made : head_of k ≡ head
  head_made = rw (← key_made) (head_of_key head x y z)

-- what was decoded makes the key again
decoded_on : (b : Bool) (x y z : ℕ) (x' y' z' : Cells)
    → cond {A = Result (Cells × Cells × Cells) Refusal} b (Ok (record { 0 = x }, record { 0 = y }, record { 0 = z })) (Err OffLattice)
    ≡ Ok (x', y', z')
    → (b ≡ true) × (x ≡ x'.0) × (y ≡ y'.0) × (z ≡ z'.0)
decoded_on true x y z x' y' z' e =
    let p : ◌≡◌ {A = Cells × Cells × Cells} (record { 0 = x }, record { 0 = y }, record { 0 = z }) (x', y', z') = cc in
    (refl, ap (λ c. c.0.0) p, ap (λ c. c.1.0) p, ap (λ c. c.2.0) p)
decoded_on false x y z x' y' z' e = let o : ◌≡◌ {A = ℕ} 0 1 = cc in let no : ⊥ = omega arith in absurd no

pub made_decoded : (k : ℕ) (x y z : Cells) → decoded_of k ≡ Ok (x, y, z) → made_of (head_of k) x.0 y.0 z.0 ≡ Ok k
made_decoded k x y z e =
    let d = decoded_on (on_lattice k) (x_of k) (y_of k) (z_of k) x y z e in
    rw (← d.1, ← d.2, ← d.3, d.0) (ap Ok (key_of_parts k))
