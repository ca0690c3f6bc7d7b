-- Two labels that differ at most in start, end, U and data end, and two that differ at most in U and data end: what they share.
-- Assumes nothing.
use Rattle.std.specs.Prelude.{ℕ, ◌+◌, ◌≤◌, ◌≡◌, true, List, length, get_or, take, drop}
use Rattle.std.proofs.Math.Path.{refl}
use Rattle.std.proofs.Common.{◌∙◌, inl, inr, arith}
use Rattle.standard.specs.Characters.{field, at}
use Rattle.standard.specs.Labels.{known_level, another_level, format_of, record_length, unused_count, params_of, rule44, rule6, rule29, rule35, rule40, rule23, rule63, rule41, rule42, rule43, rule45, rule46, rule48, rule67, rule54, rule58, rule64, rule73, rule75, hdr1_rules, label_fault}
use Rattle.standard.specs.declared.Geometry.{Geometry}
use Rattle.promises.specs.Ground.Basics.{or_right}
use Rattle.promises.specs.Ground.Splices.{Outside, part_same}
use Rattle.promises.specs.Volumes.Judging.{rows_each, rows_all}

-- THE SAME FIELDS, but for start (29-33), end (35-39), U (58-62) and data end (75-79)
pub record Shared (h k : List ℕ) : Type 0 where
  pub p1 : field k 1 4 ≡ field h 1 4
  pub p6 : field k 6 22 ≡ field h 6 22
  pub p14 : field k 14 22 ≡ field h 14 22
  pub p23 : field k 23 27 ≡ field h 23 27
  pub p40 : at k 40 ≡ at h 40
  pub p41 : at k 41 ≡ at h 41
  pub p42 : at k 42 ≡ at h 42
  pub p43 : at k 43 ≡ at h 43
  pub p44 : at k 44 ≡ at h 44
  pub p45 : at k 45 ≡ at h 45
  pub p46 : field k 46 47 ≡ field h 46 47
  pub p48 : field k 48 53 ≡ field h 48 53
  pub p54 : field k 54 57 ≡ field h 54 57
  pub p63 : at k 63 ≡ at h 63
  pub p64 : at k 64 ≡ at h 64
  pub p67 : field k 67 72 ≡ field h 67 72
  pub p73 : at k 73 ≡ at h 73

module _ (h k : List ℕ) (a : Shared h k) where
  pub shared_known : known_level k ≡ known_level h
  unfolding known_level
  shared_known = rw a.p44

  another : another_level k ≡ another_level h
  unfolding another_level
  another = rw (a.p44, shared_known)

  shared_format : format_of k ≡ format_of h
  unfolding format_of
  shared_format = rw a.p40

  shared_record : record_length k ≡ record_length h
  unfolding record_length
  shared_record = rw (a.p54, a.p23)

  shared_params : params_of k ≡ params_of h
  shared_params = rw (shared_format, shared_record, a.p63)

  r40 : rule40 k ≡ rule40 h
  unfolding rule40
  r40 = rw (a.p40, a.p44)

  r63 : rule63 k ≡ rule63 h
  unfolding rule63
  r63 = rw (a.p63, r40, a.p40, a.p44)

  module _ (g : Geometry) where
    r23 : rule23 g k ≡ rule23 g h
    unfolding rule23
    r23 = rw (a.p23, r40, a.p40, a.p44)

    r54 : rule54 g k ≡ rule54 g h
    unfolding rule54
    r54 = rw (a.p54, r23, r40, a.p40, shared_record, a.p23, r63, a.p63, a.p44)

    -- with the same U
    pub shared_58 : field k 58 62 ≡ field h 58 62 → rule58 g k ≡ rule58 g h
    unfolding rule58 unused_count
    shared_58 u = rw (u, r23, r63, r40, r54, a.p23, a.p63, a.p40, shared_record)

    -- A LABEL STAYS WITHOUT FAULT if its new start, end, U and data end are legal
    pub right_again : label_fault g h ≡ 0 → rule29 g k ≡ true → rule35 g k ≡ true → rule58 g k ≡ true → rule75 g k ≡ true → label_fault g k ≡ 0
    unfolding label_fault hdr1_rules rule44 rule6 rule41 rule42 rule43 rule45 rule46 rule48 rule67 rule64 rule73
    right_again z n29 n35 n58 n75 =
        let (h1, (h6, (h23, (h29, (h35, (h40, (h41, (h42, (h43, (h44, (h45, (h46, (h48, (h54, (h58, (h63, (h64, (h67, (h73, _))))))))))))))))))) = rows_each _ z refl in
        rows_all _ (
          rw a.p1 h1,
          (
            rw (another, a.p6, a.p14, a.p44) h6,
            (
              rw (another, r23) h23,
              (
                n29,
                (
                  n35,
                  (
                    rw (another, r40) h40,
                    (
                      rw (another, a.p41) h41,
                      (
                        rw (another, a.p42) h42,
                        (
                          rw (another, a.p43) h43,
                          (
                            rw a.p44 h44,
                            (
                              rw (another, a.p45) h45,
                              (
                                rw (another, a.p46) h46,
                                (
                                  rw (another, a.p48) h48,
                                  (
                                    rw (another, r54) h54,
                                    (
                                      or_right (another_level k) (rule58 g k) n58,
                                      (
                                        rw (another, r63) h63,
                                        (
                                          rw (another, a.p64) h64,
                                          (rw (another, a.p67) h67, (rw (another, a.p73) h73, (or_right (another_level k) (rule75 g k) n75, tt))),
                                        ),
                                      ),
                                    ),
                                  ),
                                ),
                              ),
                            ),
                          ),
                        ),
                      ),
                    ),
                  ),
                ),
              ),
            ),
          ),
        )

-- THE SAME BYTES, but for U and data end
pub record Alike (h k : List ℕ) : Type 0 where
  pub size : length k ≡ length h
  pub outside : (i : ℕ) → Outside i 57 5 → Outside i 74 5 → get_or k i 0 ≡ get_or h i 0

module _ (h k : List ℕ) (a : Alike h k) where
  front : (p n : ℕ) → p + n ≤ 57 → take n (drop p k) ≡ take n (drop p h)
  front p n l = part_same p n h k a.size (λ i lo hi. a.outside i (inl (omega arith)) (inl (omega arith)))

  middle : (p n : ℕ) → 62 ≤ p → p + n ≤ 74 → take n (drop p k) ≡ take n (drop p h)
  middle p n m l = part_same p n h k a.size (λ i lo hi. a.outside i (inr (omega arith)) (inl (omega arith)))

  pub shared : Shared h k
  shared =
      record {
        p1 = front 0 4 (omega arith);
        p6 = front 5 17 (omega arith);
        p14 = front 13 9 (omega arith);
        p23 = front 22 5 (omega arith);
        p40 = a.outside 39 (inl (omega arith)) (inl (omega arith));
        p41 = a.outside 40 (inl (omega arith)) (inl (omega arith));
        p42 = a.outside 41 (inl (omega arith)) (inl (omega arith));
        p43 = a.outside 42 (inl (omega arith)) (inl (omega arith));
        p44 = a.outside 43 (inl (omega arith)) (inl (omega arith));
        p45 = a.outside 44 (inl (omega arith)) (inl (omega arith));
        p46 = front 45 2 (omega arith);
        p48 = front 47 6 (omega arith);
        p54 = front 53 4 (omega arith);
        p63 = a.outside 62 (inr (omega arith)) (inl (omega arith));
        p64 = a.outside 63 (inr (omega arith)) (inl (omega arith));
        p67 = middle 66 6 (omega arith) (omega arith);
        p73 = a.outside 72 (inr (omega arith)) (inl (omega arith));
      }

  pub f1 : field k 1 4 ≡ field h 1 4
  f1 = shared.p1

  pub f6 : field k 6 22 ≡ field h 6 22
  f6 = shared.p6

  pub f23 : field k 23 27 ≡ field h 23 27
  f23 = shared.p23

  pub f29 : field k 29 33 ≡ field h 29 33
  f29 = front 28 5 (omega arith)

  pub f35 : field k 35 39 ≡ field h 35 39
  f35 = front 34 5 (omega arith)

  pub a40 : at k 40 ≡ at h 40
  a40 = shared.p40

  pub a42 : at k 42 ≡ at h 42
  a42 = shared.p42

  pub a43 : at k 43 ≡ at h 43
  a43 = shared.p43

  pub a45 : at k 45 ≡ at h 45
  a45 = shared.p45

  pub a63 : at k 63 ≡ at h 63
  a63 = shared.p63

  pub known : known_level k ≡ known_level h
  known = shared_known h k shared

  pub format_same : format_of k ≡ format_of h
  format_same = shared_format h k shared

  pub record_same : record_length k ≡ record_length h
  record_same = shared_record h k shared

  pub params_same : params_of k ≡ params_of h
  params_same = shared_params h k shared

  module _ (g : Geometry) where
    r29 : rule29 g k ≡ rule29 g h
    unfolding rule29
    r29 = rw (f29)

    r35 : rule35 g k ≡ rule35 g h
    unfolding rule35
    r35 = rw (f35, r29, f29)

    -- A LABEL STAYS WITHOUT FAULT if its new U and data end are legal
    pub still_right : label_fault g h ≡ 0 → rule58 g k ≡ true → rule75 g k ≡ true → label_fault g k ≡ 0
    unfolding label_fault hdr1_rules
    still_right z n58 n75 =
        let (h1, (h6, (h23, (h29, (h35, _))))) = rows_each _ z refl in
        right_again h k shared g z (r29 ∙ h29) (r35 ∙ h35) n58 n75
