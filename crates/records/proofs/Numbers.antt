-- Each record has the number of its kind.
use Rattle.std.proofs.Common.{refl}
use Rattle.semantics.specs.Conditions as conditions
use Rattle.semantics.specs.Records as records
use Rattle.records.specs.RecordKinds.{RecordsNumbered, TermsNumbered}

pub records_numbered : RecordsNumbered
records_numbered (records.table_record t) = refl
records_numbered (records.select_record c) = refl
records_numbered (records.project_record cs) = refl
records_numbered records.product_record = refl
records_numbered records.union_record = refl
records_numbered records.difference_record = refl

pub terms_numbered : TermsNumbered
terms_numbered (conditions.comparing (conditions.by_column op l r)) = refl
terms_numbered (conditions.comparing (conditions.by_number op l n)) = refl
terms_numbered (conditions.comparing (conditions.by_prefix op l ds)) = refl
terms_numbered conditions.conjoining = refl
terms_numbered conditions.disjoining = refl
terms_numbered conditions.negating = refl
