-- A number, where there is one: what an answer says of the test, and what the test says of the answer.
-- Assumes nothing.
use Prim.Native.Nat.{ℕ}
use mathlib.Core.Path.{◌≡◌, refl, sym, ap, ◌∙◌}
use mathlib.Core.Bool.{Bool, true, false}
use Rattle.std.specs.Prelude.{is_some}
use Rattle.std.specs.Bool.{then_some}
use Rattle.fields.specs.Numbers.{perhaps}
use Rattle.std.specs.declared.option.Option.{Option}
use Rattle.std.specs.declared.option.Option.TheVariants.{Some, None}

pub test_holds : (t : Bool) (n m : ℕ) → perhaps t n ≡ Some m → t ≡ true
unfolding perhaps
test_holds true n m h = refl
test_holds false n m h = cc

pub number_is : (t : Bool) (n m : ℕ) → perhaps t n ≡ Some m → m ≡ n
unfolding perhaps
number_is true n m h = cc
number_is false n m h = cc

pub test_fails : (t : Bool) (n : ℕ) → perhaps t n ≡ None → t ≡ false
unfolding perhaps
test_fails true n h = cc
test_fails false n h = refl

pub is_number : (t : Bool) (n m : ℕ) → t ≡ true → m ≡ n → Some m ≡ perhaps t n
unfolding perhaps
is_number t n m h e = simp (h, e)

pub is_nothing : (t : Bool) (n : ℕ) → t ≡ false → None ≡ perhaps t n
unfolding perhaps
is_nothing t n h = simp h

-- the same of an answer x that a function gave, and that was found to be a number or none
pub read_fails : {x : Option ℕ} (t : Bool) (n : ℕ) → x ≡ None → x ≡ perhaps t n → t ≡ false
read_fails t n e q = test_fails t n (sym q ∙ e)

pub read_holds : {x : Option ℕ} {k : ℕ} (t : Bool) (n : ℕ) → x ≡ Some k → x ≡ perhaps t n → t ≡ true
read_holds {k = k} t n e q = test_holds t n k (sym q ∙ e)

pub read_number : {x : Option ℕ} {k : ℕ} (t : Bool) (n : ℕ) → x ≡ Some k → x ≡ perhaps t n → k ≡ n
read_number {k = k} t n e q = number_is t n k (sym q ∙ e)

-- whether there is one
pub some_if : (t : Bool) (n : ℕ) → is_some (perhaps t n) ≡ t
unfolding perhaps
some_if true n = refl
some_if false n = refl

pub some_is : {x : Option ℕ} (r t : Bool) (n : ℕ) → r ≡ is_some x → x ≡ perhaps t n → r ≡ t
some_is r t n e q = e ∙ ap is_some q ∙ some_if t n

-- an answer handed on by `?`, and one made by `then_some`
pub none_handed : {x : Option ℕ} (t : Bool) (n : ℕ) → x ≡ None → t ≡ false → x ≡ perhaps t n
unfolding perhaps
none_handed t n e h = simp h e

pub then_made : {x : Option ℕ} (r t : Bool) (m n : ℕ) → x ≡ then_some r m → r ≡ t → m ≡ n → x ≡ perhaps t n
unfolding perhaps
then_made true t m n e h k = simp (sym h, sym k) e
then_made false t m n e h k = simp (sym h) e
