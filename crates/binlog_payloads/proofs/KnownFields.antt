-- What one field adds to what is stated.
use Rattle.std.proofs.Common.{◌≡◌, ℕ, Bool, true, false, cond, eqb, List, [], Some, None, Ok, Err, refl, subst}
use Rattle.std.specs.Prelude.{is_some}
use Rattle.std.proofs.lemmas.Bool.{eqb-true}
use Rattle.binlog_wire.specs.Fields.{IsBytes}
use Rattle.binlog_variable_fields.specs.LenEnc.{IsLenEnc}
use Rattle.binlog_payloads.specs.declared.error.PayloadError.TheVariants as errors
use Rattle.binlog_payloads.specs.declared.compression.TransactionPayloadCompressionType.{TransactionPayloadCompressionType}
use Rattle.binlog_payloads.specs.declared.compression.TransactionPayloadCompressionType.TheVariants as kinds
use Rattle.binlog_payloads.specs.declared.fields.Stated.{Stated}
use Rattle.binlog_payloads.specs.Results.{step}
use Rattle.binlog_payloads.specs.Fields.{number_of, algorithm_of, number_once, with_field}
use Rattle.binlog_payloads.proofs.Numbers.{step_ok, once_complete, once_sound}

pub algorithm_back : (a : TransactionPayloadCompressionType) → algorithm_of (number_of a) ≡ Ok a
algorithm_back kinds.ZSTD = refl
algorithm_back kinds.NONE = refl

algorithm_forth_by : (n : ℕ) (a : TransactionPayloadCompressionType) (t u : Bool) → eqb n 0 ≡ t → eqb n 255 ≡ u → cond t (Ok kinds.ZSTD) (cond u (Ok kinds.NONE) (Err (errors.Kind n))) ≡ Ok a → n ≡ number_of a
algorithm_forth_by n a true u ht hu e = let same : kinds.ZSTD ≡ a = cc in subst (λ (b : TransactionPayloadCompressionType). n ≡ number_of b) same (eqb-true _ _ ht)
algorithm_forth_by n a false true ht hu e = let same : kinds.NONE ≡ a = cc in subst (λ (b : TransactionPayloadCompressionType). n ≡ number_of b) same (eqb-true _ _ hu)
algorithm_forth_by n a false false ht hu e = absurd cc

pub algorithm_forth : (n : ℕ) (a : TransactionPayloadCompressionType) → algorithm_of n ≡ Ok a → n ≡ number_of a
algorithm_forth n a e = algorithm_forth_by n a (eqb n 0) (eqb n 255) refl refl e

-- ---- what is added

pub size_added : (s : Stated) (v : List ℕ) (n : ℕ) → s.payload_size ≡ None → IsLenEnc v n [] → with_field 1 v s ≡ Ok (record s { payload_size = Some n })
unfolding with_field
size_added s v n none h = rw (once_complete s.payload_size v n none h) refl

pub algorithm_added : (s : Stated) (v : List ℕ) (a : TransactionPayloadCompressionType) → s.algorithm ≡ None → IsLenEnc v (number_of a) [] → with_field 2 v s ≡ Ok (record s { algorithm = Some a })
unfolding with_field
algorithm_added s v a none h = rw (once_complete s.algorithm v (number_of a) none h, algorithm_back a) refl

pub uncompressed_added : (s : Stated) (v : List ℕ) (n : ℕ) → s.uncompressed_size ≡ None → IsLenEnc v n [] → with_field 3 v s ≡ Ok (record s { uncompressed_size = Some n })
unfolding with_field
uncompressed_added s v n none h = rw (once_complete s.uncompressed_size v n none h) refl

pub other_added : (type : ℕ) (v : List ℕ) (s : Stated) → eqb type 1 ≡ false → eqb type 2 ≡ false → eqb type 3 ≡ false → with_field type v s ≡ Ok s
unfolding with_field
other_added type v s a b c = rw (a, b, c) refl

-- ---- what was added

pub record AddsSize (s t : Stated) (v : List ℕ) : Type 0 where
  pub n : ℕ
  pub before : s.payload_size ≡ None
  pub spelled : IsLenEnc v n []
  pub is : t ≡ record s { payload_size = Some n }

pub record AddsAlgorithm (s t : Stated) (v : List ℕ) : Type 0 where
  pub a : TransactionPayloadCompressionType
  pub before : s.algorithm ≡ None
  pub spelled : IsLenEnc v (number_of a) []
  pub is : t ≡ record s { algorithm = Some a }

pub record AddsUncompressed (s t : Stated) (v : List ℕ) : Type 0 where
  pub n : ℕ
  pub before : s.uncompressed_size ≡ None
  pub spelled : IsLenEnc v n []
  pub is : t ≡ record s { uncompressed_size = Some n }

pub adds_size : (s t : Stated) (v : List ℕ) → IsBytes v → with_field 1 v s ≡ Ok t → AddsSize s t v
unfolding with_field
adds_size s t v fits e =
    let p = step_ok (number_once (is_some s.payload_size) v) (λ (size : ℕ). Ok (record s { payload_size = Some size })) t e in
    let once = once_sound s.payload_size v p.0 fits p.1 in
    record { n = p.0; before = once.0; spelled = once.1; is = cc }

pub adds_algorithm : (s t : Stated) (v : List ℕ) → IsBytes v → with_field 2 v s ≡ Ok t → AddsAlgorithm s t v
unfolding with_field
adds_algorithm s t v fits e =
    let p = step_ok (number_once (is_some s.algorithm) v) (λ (number : ℕ). step (algorithm_of number) (λ (algorithm : TransactionPayloadCompressionType). Ok (record s { algorithm = Some algorithm }))) t e in
    let q = step_ok (algorithm_of p.0) (λ (algorithm : TransactionPayloadCompressionType). Ok (record s { algorithm = Some algorithm })) t p.2 in
    let once = once_sound s.algorithm v p.0 fits p.1 in
    record { a = q.0; before = once.0; spelled = subst (λ (k : ℕ). IsLenEnc v k []) (algorithm_forth p.0 q.0 q.1) once.1; is = cc }

pub adds_uncompressed : (s t : Stated) (v : List ℕ) → IsBytes v → with_field 3 v s ≡ Ok t → AddsUncompressed s t v
unfolding with_field
adds_uncompressed s t v fits e =
    let p = step_ok (number_once (is_some s.uncompressed_size) v) (λ (size : ℕ). Ok (record s { uncompressed_size = Some size })) t e in
    let once = once_sound s.uncompressed_size v p.0 fits p.1 in
    record { n = p.0; before = once.0; spelled = once.1; is = cc }
