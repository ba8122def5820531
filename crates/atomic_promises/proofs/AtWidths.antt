-- At each width the contract is the definition of that width, by computation. Assumes nothing.
use contract.BorrowLft.{⊑_static}
use Rattle.says.proofs.Facts.{one_one}
use Rattle.atomic_promises.specs.AtWidths.{SaysU64, SaysU8, SaysBool}
use Rattle.atomic_promises.proofs.AsByValue.{two_live}

pub says_u64 : (clones : _) (clone : _) → SaysU64 clones clone
says_u64 clones clone =
    record {
      load = (λ M 𝓤 𝓛 mem runs κs a. two_live 𝓤 _ _ (⊑_static κs.0) (⊑_static κs.1.0), λ M 𝓤 𝓛 mem runs κs a r e g. one_one 𝓤 _ _ (λ x. x));
      store = (λ M 𝓤 𝓛 mem runs κs a. two_live 𝓤 _ _ (⊑_static κs.0) (⊑_static κs.1.0), λ M 𝓤 𝓛 mem runs κs a r e g. one_one 𝓤 _ _ (λ x. x));
      swap = (λ M 𝓤 𝓛 mem runs κs a. two_live 𝓤 _ _ (⊑_static κs.0) (⊑_static κs.1.0), λ M 𝓤 𝓛 mem runs κs a r e g. one_one 𝓤 _ _ (λ x. x));
      compare_exchange = (λ M 𝓤 𝓛 mem runs κs a. two_live 𝓤 _ _ (⊑_static κs.0) (⊑_static κs.1.0), λ M 𝓤 𝓛 mem runs κs a r e g. one_one 𝓤 _ _ (λ x. x));
      compare_exchange_weak = (λ M 𝓤 𝓛 mem runs κs a. two_live 𝓤 _ _ (⊑_static κs.0) (⊑_static κs.1.0), λ M 𝓤 𝓛 mem runs κs a r e g. one_one 𝓤 _ _ (λ x. x));
      fetch_and = (λ M 𝓤 𝓛 mem runs κs a. two_live 𝓤 _ _ (⊑_static κs.0) (⊑_static κs.1.0), λ M 𝓤 𝓛 mem runs κs a r e g. one_one 𝓤 _ _ (λ x. x));
      fetch_or = (λ M 𝓤 𝓛 mem runs κs a. two_live 𝓤 _ _ (⊑_static κs.0) (⊑_static κs.1.0), λ M 𝓤 𝓛 mem runs κs a r e g. one_one 𝓤 _ _ (λ x. x));
      fetch_xor = (λ M 𝓤 𝓛 mem runs κs a. two_live 𝓤 _ _ (⊑_static κs.0) (⊑_static κs.1.0), λ M 𝓤 𝓛 mem runs κs a r e g. one_one 𝓤 _ _ (λ x. x));
      fetch_add = (λ M 𝓤 𝓛 mem runs κs a. two_live 𝓤 _ _ (⊑_static κs.0) (⊑_static κs.1.0), λ M 𝓤 𝓛 mem runs κs a r e g. one_one 𝓤 _ _ (λ x. x));
      fetch_sub = (λ M 𝓤 𝓛 mem runs κs a. two_live 𝓤 _ _ (⊑_static κs.0) (⊑_static κs.1.0), λ M 𝓤 𝓛 mem runs κs a r e g. one_one 𝓤 _ _ (λ x. x));
      fetch_add_wrapping = (λ M 𝓤 𝓛 mem runs κs a. two_live 𝓤 _ _ (⊑_static κs.0) (⊑_static κs.1.0), λ M 𝓤 𝓛 mem runs κs a r e g. one_one 𝓤 _ _ (λ x. x));
      fetch_sub_wrapping = (λ M 𝓤 𝓛 mem runs κs a. two_live 𝓤 _ _ (⊑_static κs.0) (⊑_static κs.1.0), λ M 𝓤 𝓛 mem runs κs a r e g. one_one 𝓤 _ _ (λ x. x));
      fetch_nand = (λ M 𝓤 𝓛 mem runs κs a. two_live 𝓤 _ _ (⊑_static κs.0) (⊑_static κs.1.0), λ M 𝓤 𝓛 mem runs κs a r e g. one_one 𝓤 _ _ (λ x. x));
      fetch_max = (λ M 𝓤 𝓛 mem runs κs a. two_live 𝓤 _ _ (⊑_static κs.0) (⊑_static κs.1.0), λ M 𝓤 𝓛 mem runs κs a r e g. one_one 𝓤 _ _ (λ x. x));
    }

pub says_u8 : (clones : _) (clone : _) → SaysU8 clones clone
says_u8 clones clone =
    record {
      load = (λ M 𝓤 𝓛 mem runs κs a. two_live 𝓤 _ _ (⊑_static κs.0) (⊑_static κs.1.0), λ M 𝓤 𝓛 mem runs κs a r e g. one_one 𝓤 _ _ (λ x. x));
      store = (λ M 𝓤 𝓛 mem runs κs a. two_live 𝓤 _ _ (⊑_static κs.0) (⊑_static κs.1.0), λ M 𝓤 𝓛 mem runs κs a r e g. one_one 𝓤 _ _ (λ x. x));
      swap = (λ M 𝓤 𝓛 mem runs κs a. two_live 𝓤 _ _ (⊑_static κs.0) (⊑_static κs.1.0), λ M 𝓤 𝓛 mem runs κs a r e g. one_one 𝓤 _ _ (λ x. x));
      compare_exchange = (λ M 𝓤 𝓛 mem runs κs a. two_live 𝓤 _ _ (⊑_static κs.0) (⊑_static κs.1.0), λ M 𝓤 𝓛 mem runs κs a r e g. one_one 𝓤 _ _ (λ x. x));
      compare_exchange_weak = (λ M 𝓤 𝓛 mem runs κs a. two_live 𝓤 _ _ (⊑_static κs.0) (⊑_static κs.1.0), λ M 𝓤 𝓛 mem runs κs a r e g. one_one 𝓤 _ _ (λ x. x));
      fetch_and = (λ M 𝓤 𝓛 mem runs κs a. two_live 𝓤 _ _ (⊑_static κs.0) (⊑_static κs.1.0), λ M 𝓤 𝓛 mem runs κs a r e g. one_one 𝓤 _ _ (λ x. x));
      fetch_or = (λ M 𝓤 𝓛 mem runs κs a. two_live 𝓤 _ _ (⊑_static κs.0) (⊑_static κs.1.0), λ M 𝓤 𝓛 mem runs κs a r e g. one_one 𝓤 _ _ (λ x. x));
      fetch_xor = (λ M 𝓤 𝓛 mem runs κs a. two_live 𝓤 _ _ (⊑_static κs.0) (⊑_static κs.1.0), λ M 𝓤 𝓛 mem runs κs a r e g. one_one 𝓤 _ _ (λ x. x));
      fetch_add = (λ M 𝓤 𝓛 mem runs κs a. two_live 𝓤 _ _ (⊑_static κs.0) (⊑_static κs.1.0), λ M 𝓤 𝓛 mem runs κs a r e g. one_one 𝓤 _ _ (λ x. x));
      fetch_sub = (λ M 𝓤 𝓛 mem runs κs a. two_live 𝓤 _ _ (⊑_static κs.0) (⊑_static κs.1.0), λ M 𝓤 𝓛 mem runs κs a r e g. one_one 𝓤 _ _ (λ x. x));
      fetch_add_wrapping = (λ M 𝓤 𝓛 mem runs κs a. two_live 𝓤 _ _ (⊑_static κs.0) (⊑_static κs.1.0), λ M 𝓤 𝓛 mem runs κs a r e g. one_one 𝓤 _ _ (λ x. x));
      fetch_sub_wrapping = (λ M 𝓤 𝓛 mem runs κs a. two_live 𝓤 _ _ (⊑_static κs.0) (⊑_static κs.1.0), λ M 𝓤 𝓛 mem runs κs a r e g. one_one 𝓤 _ _ (λ x. x));
      fetch_nand = (λ M 𝓤 𝓛 mem runs κs a. two_live 𝓤 _ _ (⊑_static κs.0) (⊑_static κs.1.0), λ M 𝓤 𝓛 mem runs κs a r e g. one_one 𝓤 _ _ (λ x. x));
      fetch_max = (λ M 𝓤 𝓛 mem runs κs a. two_live 𝓤 _ _ (⊑_static κs.0) (⊑_static κs.1.0), λ M 𝓤 𝓛 mem runs κs a r e g. one_one 𝓤 _ _ (λ x. x));
    }

pub says_bool : (clones : _) (clone : _) → SaysBool clones clone
says_bool clones clone =
    record {
      load = (λ M 𝓤 𝓛 mem runs κs a. two_live 𝓤 _ _ (⊑_static κs.0) (⊑_static κs.1.0), λ M 𝓤 𝓛 mem runs κs a r e g. one_one 𝓤 _ _ (λ x. x));
      store = (λ M 𝓤 𝓛 mem runs κs a. two_live 𝓤 _ _ (⊑_static κs.0) (⊑_static κs.1.0), λ M 𝓤 𝓛 mem runs κs a r e g. one_one 𝓤 _ _ (λ x. x));
      swap = (λ M 𝓤 𝓛 mem runs κs a. two_live 𝓤 _ _ (⊑_static κs.0) (⊑_static κs.1.0), λ M 𝓤 𝓛 mem runs κs a r e g. one_one 𝓤 _ _ (λ x. x));
      compare_exchange = (λ M 𝓤 𝓛 mem runs κs a. two_live 𝓤 _ _ (⊑_static κs.0) (⊑_static κs.1.0), λ M 𝓤 𝓛 mem runs κs a r e g. one_one 𝓤 _ _ (λ x. x));
      compare_exchange_weak = (λ M 𝓤 𝓛 mem runs κs a. two_live 𝓤 _ _ (⊑_static κs.0) (⊑_static κs.1.0), λ M 𝓤 𝓛 mem runs κs a r e g. one_one 𝓤 _ _ (λ x. x));
      fetch_and = (λ M 𝓤 𝓛 mem runs κs a. two_live 𝓤 _ _ (⊑_static κs.0) (⊑_static κs.1.0), λ M 𝓤 𝓛 mem runs κs a r e g. one_one 𝓤 _ _ (λ x. x));
      fetch_or = (λ M 𝓤 𝓛 mem runs κs a. two_live 𝓤 _ _ (⊑_static κs.0) (⊑_static κs.1.0), λ M 𝓤 𝓛 mem runs κs a r e g. one_one 𝓤 _ _ (λ x. x));
      fetch_xor = (λ M 𝓤 𝓛 mem runs κs a. two_live 𝓤 _ _ (⊑_static κs.0) (⊑_static κs.1.0), λ M 𝓤 𝓛 mem runs κs a r e g. one_one 𝓤 _ _ (λ x. x));
    }
