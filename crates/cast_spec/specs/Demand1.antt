-- To be believed: demand 1, over the inputs I, the answer r and the destination d at exit.
use Rattle.std.specs.Prelude.{◌≡◌, ◌↔◌, ◌≢◌, true, false, List, ℕ, ◌*◌, ◌/◌, ◌%◌, ◌^◌, ◌≤◌, ◌<◌, T, length, drop}
use Rattle.bytes_le.specs.Bytes.{pattern_at}
use Rattle.answers.specs.Answer.{number_of, names_position, leaves_all, no_values, both_counts, values_of, position_of, outcome_number, outcome_values}
use Rattle.counts.specs.declared.Fared.{Fared}
use Rattle.cast_spec.specs.Chunk.{Inputs, call_of, outcome_at, Reached, sw, dw, codes_listed, wrap_permitted, map_whole, bytes_whole, counts_meet}
use Rattle.answers.specs.Outcome.{Answer, stored_as}

-- the element at i is converted: its steps store the pattern that its place in d holds
pub record ConvertedTo (I : Inputs) (d : List ℕ) (i : ℕ) : Type 0 where
  pub pattern : ℕ
  pub fared : Fared
  pub outcome : outcome_at (call_of I) i ≡ stored_as pattern fared
  pub stored : pattern_at (dw I) d i ≡ pattern % 256 ^ dw I

pub record Demand1 (I : Inputs) (r : Answer) (d : List ℕ) : Type 0 where
  -- "A chunk handed in, with any lengths, codes and map, comes back converted or refused by one of seven numbers", or by 8: "Demand 1 counts it too"
  pub numbered : number_of r ≤ 8
  -- the column "cause": "Numbers 1 to 4 are tested in that order; then elements by position"; 8 "directly after 1"
  pub unknown_code : (number_of r ≡ 1) ↔ (codes_listed I ≡ false)
  pub barred_wrap : (number_of r ≡ 8) ↔ ((codes_listed I ≡ true) × (wrap_permitted I ≡ false))
  pub broken_map : (number_of r ≡ 2) ↔ ((codes_listed I ≡ true) × (wrap_permitted I ≡ true) × (map_whole I ≡ false))
  pub broken_element : (number_of r ≡ 3) ↔ ((codes_listed I ≡ true) × (wrap_permitted I ≡ true) × (map_whole I ≡ true) × (bytes_whole I ≡ false))
  pub length_mismatch : (number_of r ≡ 4) ↔ ((codes_listed I ≡ true) × (wrap_permitted I ≡ true) × (map_whole I ≡ true) × (bytes_whole I ≡ true) × (counts_meet I ≡ false))
  -- "Refusals 5 to 7 concern the first bad element": the one that is reached, and that its own steps refuse
  pub first_bad : (n i : ℕ) → T (names_position n) → ((number_of r ≡ n) × (position_of r ≡ i)) ↔ (Reached (call_of I) i × (outcome_number (outcome_at (call_of I) i) ≡ n))
  -- "7 then arises with range code 0 only"
  pub overrun : number_of r ≡ 7 → I.range ≡ 0
  -- the column "returned"
  pub plain : names_position (number_of r) ≡ false → number_of r ≢ 4 → values_of r ≡ no_values
  pub counts : number_of r ≡ 4 → values_of r ≡ both_counts (length I.source / sw I) (length I.destination / dw I)
  pub of_element : T (names_position (number_of r)) → values_of r ≡ outcome_values (position_of r) (outcome_at (call_of I) (position_of r))
  -- the column "left as it was": "Refusals 1 to 4 leave the destination untouched"; "Like 1 to 4, number 8 leaves all the destination as it was"
  pub long : length d ≡ length I.destination
  pub untouched : T (leaves_all (number_of r)) → d ≡ I.destination
  -- "those before it are converted, it and all later ones untouched"; with no refusal all are converted
  pub all_converted : number_of r ≡ 0 → (i : ℕ) → i < (call_of I).count → ConvertedTo I d i
  pub before : T (names_position (number_of r)) → (i : ℕ) → i < position_of r → ConvertedTo I d i
  pub after : T (names_position (number_of r)) → drop (position_of r * dw I) d ≡ drop (position_of r * dw I) I.destination
